use Rattle.std.proofs.Common.{append_assoc}
use Rattle.binlog_json_lines.specs.ItemLines.{origin_members}
use Rattle.binlog_json_lines.proofs.header_members.write_origin.Goals as goal

pub returns : goal.returns
unfolding origin_members
returns c = rw (c.in_ok-write_source.ensures, c.in_ok-write_type.ensures) (simp append_assoc)
