-- Counting events by type, one by one.
use Rattle.std.specs.Prelude.{◌≡◌, ℕ, List, slice_set, slice_index_or, replicate, Option, Some, None}
use Rattle.std.specs.List.{sum}
use Rattle.change_statistics.specs.Counting.{saturated, counted}
use Rattle.change_statistics.specs.declared.type_counts.TypeCounts.{TypeCounts}

-- What is counted of an event: its raw type, and the number of its bytes.
pub record Typed : Type 0 where
  pub type : ℕ
  pub bytes : ℕ

-- The sum of the counts; 2^64 - 1 if it is larger.
abbrev pub total : List ℕ → ℕ
total counts = saturated (sum counts)

-- Nothing is counted.
abbrev pub no_type_counts : TypeCounts
no_type_counts = record { events = replicate 256 0; bytes = replicate 256 0; errors = 0 }

-- The counts with one more event.
abbrev pub with_typed : TypeCounts → (type bytes : ℕ) → TypeCounts
with_typed old type bytes = record old {
  events = slice_set old.events type (counted (slice_index_or old.events type 0) 1);
  bytes = slice_set old.bytes type (counted (slice_index_or old.bytes type 0) bytes);
}

-- The counts with one more error.
abbrev pub with_error : TypeCounts → TypeCounts
with_error old = record old { errors = counted old.errors 1 }

-- An event is counted, or an error in its place.
abbrev pub CountsTyped : TypeCounts → Option Typed → TypeCounts → Type 0
CountsTyped old (Some event) new = new ≡ with_typed old event.type event.bytes
CountsTyped old None new = new ≡ with_error old
