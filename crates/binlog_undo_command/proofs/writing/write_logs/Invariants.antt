use Rattle.std.proofs.Common.{◌≤◌, length, drop}
use Rattle.binlog_undo_command.specs.Written.{WritesLogs}
use Rattle.binlog_undo_command.proofs.writing.write_logs.Given as goal

-- What undoes the logs behind those that are left is written.
abbrev pub invariant-logs : goal.invariant-logs
invariant-logs g l = record {
  within : l.left ≤ length l.scanned;
  done : WritesLogs (g.L.Logs.has_frames l.logs) g.L.Sought.Frames.is_at g.W.WriteCounted.contents (drop l.left l.scanned) l.fn.output l.output;
}

abbrev pub decreases-logs : goal.decreases-logs
decreases-logs g l = l.left
