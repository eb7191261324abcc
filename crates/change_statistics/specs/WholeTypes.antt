-- The counts by type of whole lists of events.
use Rattle.std.specs.Prelude.{◌≡◌, ℕ, ◌<◌, ◌==◌, List, length, slice_index, filter, filter_map, count_by, sum_by, Option, is_none}
use Rattle.change_statistics.specs.Counting.{saturated}
use Rattle.change_statistics.specs.TypeCounting.{Typed}
use Rattle.change_statistics.specs.declared.type_counts.TypeCounts.{TypeCounts}

abbrev pub event_at : Option Typed → Option Typed
event_at item = item

-- The events, in order, of a list in which errors are in the places of some.
abbrev pub events_in : List (Option Typed) → List Typed
events_in items = filter_map event_at items

-- Those of a raw type.
abbrev pub of_type : ℕ → List Typed → List Typed
of_type type events = filter (λ (event : Typed). event.type == type) events

-- The number of their bytes.
abbrev pub bytes_of : List Typed → ℕ
bytes_of events = sum_by (λ (event : Typed). event.bytes) events

-- The counts are those of all events, and of all errors.
pub record AreTypeCounts (items : List (Option Typed)) (counts : TypeCounts) : Type 0 where
  pub events : (type : ℕ) → type < 256 → slice_index counts.events type ≡ saturated (length (of_type type (events_in items)))
  pub bytes : (type : ℕ) → type < 256 → slice_index counts.bytes type ≡ saturated (bytes_of (of_type type (events_in items)))
  pub errors : counts.errors ≡ saturated (count_by is_none items)
