use Rattle.std.proofs.Common.{ℕ, ◌<◌}
use Rattle.binlog_event_types.specs.TypeNames.{IsNamed}
use Rattle.binlog_event_types.proofs.search.number_with_name.Given as goal

-- none of the numbers so far has the name
abbrev pub invariant-loop-number : goal.invariant-loop-number
invariant-loop-number l = (n : ℕ) → n < l.number → IsNamed n l.name → ⊥
