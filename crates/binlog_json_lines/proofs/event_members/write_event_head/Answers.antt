use Rattle.std.proofs.Common.{append_assoc}
use Rattle.binlog_json_lines.specs.ItemLines.{event_head}
use Rattle.binlog_json_lines.proofs.Answered.{map_ok}
use Rattle.binlog_json_lines.proofs.event_members.write_event_head.Goals as goal

pub returns : goal.returns
unfolding event_head
returns c = map_ok c.write_event_fields.result c.write_event_fields.ensures (λ is. rw (is, c.in_ok-number_member.ensures.added) (simp append_assoc))
