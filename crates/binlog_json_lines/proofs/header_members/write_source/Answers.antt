use Rattle.std.proofs.Common.{append_assoc}
use Rattle.binlog_json_lines.specs.ItemLines.{source_members}
use Rattle.binlog_json_lines.proofs.header_members.write_source.Goals as goal

pub returns : goal.returns
unfolding source_members
returns c = rw (c.in_ok-number_member-2.ensures.added, c.in_ok-number_member.ensures.added, c.from.ensures, c.timestamp.ensures, c.from-2.ensures, c.server_id.ensures) (simp append_assoc)
