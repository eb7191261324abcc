use Rattle.std.proofs.Common.{map, drop}
use Rattle.binlog_later_changes.specs.declared.later_changes.LaterChanges.{LaterChanges}
use Rattle.binlog_undo_command.specs.LaterLogs.{FindsInLater}
use Rattle.binlog_undo_command.proofs.later_logs.look_at_later.Given as goal

-- What is found in the logs that are left completes what is found in all.
abbrev pub invariant-loop-name : goal.invariant-loop-name
invariant-loop-name g l = (end : LaterChanges) → FindsInLater (g.L.Logs.bytes l.logs) l.rules l.number (map (λ name. name.now) (drop l.name-index l.later)) l.changes end
    → FindsInLater (g.L.Logs.bytes l.logs) l.rules l.fn.first (map (λ name. name.now) l.later) l.fn.found end
