use Rattle.std.proofs.Common.{map, drop}
use Rattle.binlog_later_changes.specs.Changes.{IsNew}
use Rattle.binlog_later_changes.specs.declared.later_changes.LaterChanges.{LaterChanges}
use Rattle.binlog_undo_command.specs.LaterLogs.{FindsInAll}
use Rattle.binlog_undo_command.proofs.later_logs.look_behind.Given as goal

-- What is found in the logs that are left completes what is found in all.
abbrev pub invariant-loop-log : goal.invariant-loop-log
invariant-loop-log g l = (end : LaterChanges)
    → FindsInAll (g.L.Logs.bytes l.logs) (g.L.Logs.has_frames l.logs) g.L.Sought.Frames.is_at l.rules l.number (drop l.log-index l.scanned) (map (λ name. name.now) l.later) l.changes end
    → (none : LaterChanges) × IsNew none × FindsInAll (g.L.Logs.bytes l.logs) (g.L.Logs.has_frames l.logs) g.L.Sought.Frames.is_at l.rules 0 l.scanned (map (λ name. name.now) l.later) none end
