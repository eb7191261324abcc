use Rattle.std.proofs.Common.{append_assoc}
use Rattle.binlog_json_lines.specs.ItemLines.{event_members}
use Rattle.binlog_json_lines.proofs.event_members.write_event_members.Goals as goal

pub returns : goal.returns
unfolding event_members
returns c = rw (c.in_ok-write_next_data_member.ensures, c.in_ok-write_next_event_head.ensures) (simp append_assoc)
