use Rattle.std.proofs.Common.{append_assoc}
use Rattle.binlog_json_lines.specs.ItemLines.{extent_members}
use Rattle.binlog_json_lines.proofs.header_members.write_extent.Goals as goal

pub returns : goal.returns
unfolding extent_members
returns c = rw (c.in_ok-number_member-3.ensures.added, c.in_ok-number_member-2.ensures.added, c.in_ok-number_member.ensures.added, c.from.ensures, c.event_size.ensures, c.from-2.ensures, c.log_pos.ensures, c.from-3.ensures, c.flags_raw.ensures) (simp append_assoc)
