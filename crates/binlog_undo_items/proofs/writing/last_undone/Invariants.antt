use Rattle.std.proofs.Common.{◌≤◌, length, drop}
use Rattle.binlog_undo_items.specs.Written.{AreAllKept}
use Rattle.binlog_undo_items.proofs.writing.last_undone.Given as goal

-- Nothing is undone of the logs behind those that are left.
abbrev pub invariant-logs : goal.invariant-logs
invariant-logs l = record {
  within : l.left ≤ length l.logs;
  kept : AreAllKept (drop l.left l.logs);
}

abbrev pub decreases-logs : goal.decreases-logs
decreases-logs l = l.left
