use Rattle.std.proofs.Common.{◌≡◌, ◌-◌, ◌^◌, min, take}
use Rattle.binlog_undo_command.specs.Undoing.{changes_in}
use Rattle.binlog_undo_command.proofs.undoing.changes_in.Given as goal

-- Of the logs so far.
abbrev pub invariant-loop-log : goal.invariant-loop-log
invariant-loop-log l = l.count ≡ min (changes_in (take l.log-index l.scanned)) (2 ^ 64 - 1)
