use Rattle.std.proofs.Common.{ℕ, Bool, List, ◌++◌, drop}
use Rattle.binlog_undo_command.specs.LaterLogs.{AreInside}
use Rattle.binlog_undo_command.proofs.later_logs.are_payloads.Given as goal

-- What is said of the transactions that are left completes what is said of all.
abbrev pub invariant-loop-transaction : goal.invariant-loop-transaction
invariant-loop-transaction g l = record {
  rest : (others : List Bool) → AreInside (g.F.Frames.is_at l.fn.frames) (drop l.transaction-index l.transactions) others → AreInside (g.F.Frames.is_at l.fn.frames) l.transactions (l.are_inside.items ++ others);
  among : (place : ℕ) (frame : List ℕ) → g.F.Frames.is_at l.frames place frame → g.F.Frames.is_at l.fn.frames place frame;
}
