use Rattle.std.proofs.Common.{◌≡◌, ◌≤◌, length, drop}
use Rattle.std.specs.List.{AllByRecursion}
use Rattle.binlog_undo_command.specs.Descriptions.{HasNone}
use Rattle.binlog_undo_command.proofs.writing.begin_logs.Given as goal

-- Nothing is undone in the logs behind those that are left, and nothing is written.
abbrev pub invariant-logs : goal.invariant-logs
invariant-logs g l = record {
  within : l.left ≤ length l.scanned;
  none : AllByRecursion HasNone (drop l.left l.scanned);
  same : l.output ≡ l.fn.output;
}

abbrev pub decreases-logs : goal.decreases-logs
decreases-logs g l = l.left
