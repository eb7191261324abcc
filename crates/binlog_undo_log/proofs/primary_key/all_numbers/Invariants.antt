use Rattle.std.proofs.Common.{◌≡◌}
use Rattle.binlog_undo_log.proofs.primary_key.all_numbers.Given as goal

-- The numbers so far.
abbrev pub invariant-numbers : goal.invariant-numbers
invariant-numbers l = l.key.items ≡ l.yielded
