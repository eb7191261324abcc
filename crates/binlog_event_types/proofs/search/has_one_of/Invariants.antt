use Rattle.std.proofs.Common.{ℕ, ◌<◌, [], map, slice_index_or}
use Rattle.binlog_event_types.specs.TypeNames.{IsNamed}
use Rattle.binlog_event_types.proofs.search.has_one_of.Given as goal

-- the number has none of the names so far
abbrev pub invariant-loop-name : goal.invariant-loop-name
invariant-loop-name l = (place : ℕ) → place < l.name-index → IsNamed l.number (slice_index_or (map (λ name. name.now) l.names) place []) → ⊥
