-- What the diffs of a list do with a document, one after the other.
use Rattle.std.specs.Prelude.{◌≡◌, ◌⊎◌, ◌&&◌, Bool, true, List, [], ◌∷◌, nat_le, if◌then◌else◌, Option, Some, None, Ok, Err}
use Rattle.std.specs.Option.{option_and_then}
use Rattle.binary_json.specs.Values.{Json, nesting}
use Rattle.binary_json.specs.Diffs.{Diff, Read}
use Rattle.binary_json_writing.specs.Writable.{is_writable}
use Rattle.binary_json_writing.specs.Paths.{Leg, IsPath, IsRefusedPath, path_legs}
use Rattle.binary_json_writing.specs.Changes.{Changed, changed, IsUnwritten, FailsBy}
use Rattle.binary_json_writing.specs.declared.error.JsonWriteError.{JsonWriteError}
use Rattle.binary_json_writing.specs.declared.error.JsonWriteError.TheVariants as limits
use Rattle.binary_json_writing.specs.declared.error.JsonChangeError.{JsonChangeError}
use Rattle.binary_json_writing.specs.declared.error.JsonChangeError.TheVariants as changes
use Rattle.binary_json_writing.specs.declared.paths.JsonPathError.{JsonPathError}
use Rattle.binary_json_writing.specs.declared.paths.JsonPathError.TheVariants as paths
use Rattle.binary_json_writing.specs.declared.applying.JsonApplyError.{JsonApplyError}
use Rattle.binary_json_writing.specs.declared.applying.JsonApplyError.TheVariants as faults

-- ---- one diff

-- The diff makes this value of that one.
abbrev pub Makes : Diff → Json → Json → Type 0
Makes d v w = (legs : List Leg) × IsPath legs d.path × (changed d.operation d.value legs v ≡ Ok w)

-- The diff is refused: by its path, or by what it does.
abbrev pub IsRefused : Diff → Json → JsonApplyError → Type 0
IsRefused d v e =
    ((fault : JsonPathError) × (e ≡ faults.Path fault) × ((fault ≡ paths.Memory) ⊎ IsRefusedPath fault d.path))
    ⊎ ((legs : List Leg) × IsPath legs d.path × ((fault : JsonChangeError) × (e ≡ faults.Change fault) × FailsBy (changed d.operation d.value legs v) fault))

-- ---- lists

-- The diffs make this value of that one: each of what those before it have made.
abbrev pub AllMake : List (Read Diff) → Json → Json → Type 0
AllMake [] v w = w ≡ v
AllMake (Err x ∷ ds) v w = ⊥
AllMake (Ok d ∷ ds) v w = (u : Json) × Makes d v u × AllMake ds u w

-- The first diff that is refused.
abbrev pub AreRefused : List (Read Diff) → Json → JsonApplyError → Type 0
AreRefused [] v e = ⊥
AreRefused (Err x ∷ ds) v e = e ≡ faults.Diff x
AreRefused (Ok d ∷ ds) v e = IsRefused d v e ⊎ ((u : Json) × Makes d v u × AreRefused ds u e)

-- The document isn't written anew.
abbrev pub IsUnbegun : Json → JsonApplyError → Type 0
IsUnbegun v e = (x : JsonWriteError) × (e ≡ faults.Change (changes.Write x)) × IsUnwritten v x

-- The document isn't written anew, or a diff is refused.
abbrev pub NotApplied : List (Read Diff) → Json → JsonApplyError → Type 0
NotApplied ds v e = IsUnbegun v e ⊎ AreRefused ds v e

-- ---- the value after all diffs, by a function

-- The value can be written as a document: no part is too large, and no more than 100 arrays and objects are within one another.
abbrev pub can_be_written : Json → Bool
can_be_written v = is_writable v && nat_le (nesting v) 100

abbrev pub if_changed : Changed Json → Option Json
if_changed (Ok w) = Some w
if_changed (Err e) = None

abbrev pub changed_by : Option (List Leg) → Diff → Json → Option Json
changed_by None d v = None
changed_by (Some legs) d v = if_changed (changed d.operation d.value legs v)

-- What a diff makes of a value.
abbrev pub made_by : Diff → Json → Option Json
made_by d v = changed_by (path_legs d.path) d v

-- What the diffs make of a value; None if one of them is refused, or if a value on the way can't be written (`AllWrite`,
-- `values_after_are_made`).
unfoldable pub value_after : List (Read Diff) → Json → Option Json
value_after [] v = if can_be_written v then Some v else None
value_after (Err x ∷ ds) v = None
value_after (Ok d ∷ ds) v = if can_be_written v then option_and_then (value_after ds) (made_by d v) else None

-- The diffs make this value of that one, and these two and all between them can be written.
abbrev pub AllWrite : List (Read Diff) → Json → Json → Type 0
AllWrite [] v w = (can_be_written v ≡ true) × (w ≡ v)
AllWrite (Err x ∷ ds) v w = ⊥
AllWrite (Ok d ∷ ds) v w = (can_be_written v ≡ true) × ((u : Json) × Makes d v u × AllWrite ds u w)

-- Memory was refused.
abbrev pub IsMemory : JsonApplyError → Type 0
IsMemory e = (e ≡ faults.Path paths.Memory) ⊎ (e ≡ faults.Change (changes.Write limits.Memory))
