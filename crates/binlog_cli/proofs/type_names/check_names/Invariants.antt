use Rattle.std.proofs.Common.{ℕ, ◌<◌, [], map, slice_index_or}
use Rattle.binlog_event_types.specs.TypeNames.{IsNamed}
use Rattle.binlog_cli.proofs.type_names.check_names.Given as goal

-- each name so far is that of a type
abbrev pub invariant-loop-name : goal.invariant-loop-name
invariant-loop-name g l = (place : ℕ) → place < l.name-index → (number : ℕ) × IsNamed number (slice_index_or (map (λ name. name.now) l.names) place [])
