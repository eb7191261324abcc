-- Counting the facts of events.
use Rattle.std.specs.Prelude.{◌≡◌, List, [], ◌∷◌, ℕ, ◌+◌, ◌-◌, ◌^◌, min, Bool, true, false, Option, unwrap_or, if◌then◌else◌}
use Rattle.change_statistics.specs.declared.facts.ChangeKind.{ChangeKind}
use Rattle.change_statistics.specs.declared.facts.ChangeKind.TheVariants.{Inserted, Updated, Deleted}

-- The number; 2^64 - 1 if it is larger.
abbrev pub saturated : ℕ → ℕ
saturated n = min n (2 ^ 64 - 1)

-- The count after so many more; it stays at the largest number of 64 bits.
abbrev pub counted : ℕ → ℕ → ℕ
counted count more = saturated (count + more)

-- The count, with one more if this holds.
abbrev pub counted_if : Bool → ℕ → ℕ
counted_if b count = if b then counted count 1 else count

abbrev pub is_kind : ChangeKind → ChangeKind → Bool
is_kind Inserted Inserted = true
is_kind Updated Updated = true
is_kind Deleted Deleted = true
is_kind kind other = false

-- The number of rows that change a table like this, of so many that change it like another; 0 if they can't be read.
abbrev pub rows_as : (kind is : ChangeKind) → Option ℕ → ℕ
rows_as kind is count = if is_kind is kind then unwrap_or count 0 else 0

-- One after another is added, where `Adds old fact new` says what one makes of what is counted.
abbrev pub AddsEach : {S F : Type 0} → (Adds : S → F → S → Type 0) → List F → S → S → Type 0
AddsEach Adds [] old new = new ≡ old
AddsEach {S} Adds (fact ∷ facts) old new = (mid : S) × Adds old fact mid × AddsEach Adds facts mid new
