use Rattle.std.proofs.Common.{append_assoc}
use Rattle.binlog_json_lines.specs.ItemLines.{event_object}
use Rattle.binlog_json_lines.proofs.event_members.write_event.Goals as goal

pub returns : goal.returns
unfolding event_object
returns c = rw (c.in_ok-end_object.ensures.added, c.in_ok-write_event_members.ensures, c.in_ok-begin_object.ensures.added) (simp append_assoc)
