use Rattle.std.proofs.Common.{take}
use Rattle.binlog_undo_items.specs.Refusals.{AreAllSkipped}
use Rattle.binlog_undo_items.proofs.refusals.are_all_skipped.Given as goal

-- Those of the logs so far are skipped.
abbrev pub invariant-loop-log : goal.invariant-loop-log
invariant-loop-log l = AreAllSkipped (take l.log-index l.logs)
