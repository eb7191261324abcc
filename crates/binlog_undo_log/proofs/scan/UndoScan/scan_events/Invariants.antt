use Rattle.std.proofs.Common.{List, length}
use Rattle.std.specs.Arc.{arc_value}
use Rattle.binlog_file.specs.State.{state_of}
use Rattle.binlog_undo_index.specs.declared.seen.SeenEvent.{SeenEvent}
use Rattle.binlog_undo_log.specs.Contents.{AreFirstInside}
use Rattle.binlog_undo_log.proofs.scan.UndoScan.scan_events.Given as goal

abbrev pub invariant-events : goal.invariant-events
invariant-events l = (seen : List SeenEvent) × AreFirstInside l.fn.span l.fn.index (arc_value l.fn.fde) l.fn.content l.left seen (state_of l.reader) l.fn.self l.self

abbrev pub decreases-events : goal.decreases-events
decreases-events l = length l.left
