use Rattle.std.proofs.Common.{ℕ, ◌<◌, map}
use Rattle.std.specs.Prelude.{◌↔◌, IsTrue}
use Rattle.binlog_event_types.specs.TypeNames.{is_among, IsNamedBy}
use Rattle.binlog_event_types.proofs.search.numbers_with_names.Given as goal

-- the numbers so far that have one of the names are found
abbrev pub invariant-loop-number : goal.invariant-loop-number
invariant-loop-number l = (n : ℕ) → IsTrue (is_among n l.numbers.items) ↔ ((n < l.number) × IsNamedBy n (map (λ name. name.now) l.names))
