-- Logs that are one behind the other.
use Rattle.std.specs.Prelude.{◌≡◌, ℕ, List, length, map}
use Rattle.std.specs.List.{flat_map}
use Rattle.binlog_undo_items.specs.declared.failure.UndoFailure.{UndoFailure}
use Rattle.binlog_undo_items.specs.declared.failure.UndoFailure.TheVariants as failures

-- The bytes of all logs.
abbrev pub joined : List (List ℕ) → List ℕ
joined logs = flat_map (λ (log : List ℕ). log) logs

abbrev pub sizes_of : List (List ℕ) → List ℕ
sizes_of logs = map (λ (log : List ℕ). length log) logs

-- The bytes are those of these logs, which have these sizes.
pub record AreLogs (bytes sizes : List ℕ) (logs : List (List ℕ)) : Type 0 where
  pub all : bytes ≡ joined logs
  pub lengths : sizes ≡ sizes_of logs

-- The bytes aren't those of logs of these sizes; or memory was refused.
abbrev pub IsNoSplit : (bytes sizes : List ℕ) → UndoFailure → Type 0
IsNoSplit bytes sizes failures.Options = (logs : List (List ℕ)) → AreLogs bytes sizes logs → ⊥
IsNoSplit bytes sizes failures.Memory = Unit {0}
IsNoSplit bytes sizes failure = ⊥
