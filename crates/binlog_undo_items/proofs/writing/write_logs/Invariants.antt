use Rattle.std.proofs.Common.{◌≤◌, length, drop}
use Rattle.binlog_undo_items.specs.Written.{WritesLogs}
use Rattle.binlog_undo_items.proofs.writing.write_logs.Given as goal

-- What undoes the logs behind those that are left is written.
abbrev pub invariant-logs : goal.invariant-logs
invariant-logs g l = record {
  within : l.left ≤ length l.logs;
  done : WritesLogs g.W.WriteCounted.contents (drop l.left l.logs) l.fn.output l.output;
}

abbrev pub decreases-logs : goal.decreases-logs
decreases-logs g l = l.left
