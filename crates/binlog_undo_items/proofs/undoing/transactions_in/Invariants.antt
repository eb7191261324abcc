use Rattle.std.proofs.Common.{◌≡◌, ◌-◌, ◌^◌, min, take}
use Rattle.binlog_undo_items.specs.Refusals.{transactions_in}
use Rattle.binlog_undo_items.proofs.undoing.transactions_in.Given as goal

-- Of the logs so far.
abbrev pub invariant-loop-log : goal.invariant-loop-log
invariant-loop-log l = l.count ≡ min (transactions_in (take l.log-index l.logs)) (2 ^ 64 - 1)
