use Rattle.std.specs.List.{list_any}
use Rattle.binlog_undo_log.proofs.Looked.{both_and, none_and}
use Rattle.binlog_undo_log.specs.Looking.{is_old_temporal}
use Rattle.binlog_undo_log.proofs.scan.seeing.is_old_temporal.Goals as goal

pub returns-then-is_maria_event : goal.returns-then-is_maria_event
returns-then-is_maria_event c = (
  c.is_maria_event.result,
  c.is_maria_event.ensures,
  both_and c.is_maria_event.result (list_any is_old_temporal c.args.types.now) c.has_old_temporal.result c.if-is_maria_event.true c.has_old_temporal.ensures,
)

pub returns-else-is_maria_event : goal.returns-else-is_maria_event
returns-else-is_maria_event c = (
  c.is_maria_event.result,
  c.is_maria_event.ensures,
  none_and c.is_maria_event.result (list_any is_old_temporal c.args.types.now) c.if-is_maria_event.false,
)
