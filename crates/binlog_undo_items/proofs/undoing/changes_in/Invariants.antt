use Rattle.std.proofs.Common.{◌≡◌, ◌-◌, ◌^◌, min, take}
use Rattle.binlog_undo_items.specs.Refusals.{changes_in}
use Rattle.binlog_undo_items.proofs.undoing.changes_in.Given as goal

-- Of the logs so far.
abbrev pub invariant-loop-log : goal.invariant-loop-log
invariant-loop-log l = l.count ≡ min (changes_in (take l.log-index l.logs)) (2 ^ 64 - 1)
