use Rattle.std.proofs.Common.{◌≡◌, ℕ, map}
use Rattle.binlog_undo_log.proofs.primary_key.all_indexes.Given as goal

-- The indexes so far.
abbrev pub invariant-pairs : goal.invariant-pairs
invariant-pairs l = l.key.items ≡ map (λ (pair : ℕ × ℕ). pair.0) l.yielded
