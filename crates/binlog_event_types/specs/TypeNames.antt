-- The types of events that names name.
use Rattle.std.specs.Prelude.{◌≡◌, ◌↔◌, ◌⊎◌, ℕ, ◌<◌, ◌==◌, Bool, IsTrue, List, [], ◌++◌, length, map, slice_index_or, codes, Option, Some, None}
use Rattle.std.specs.Char.{to_ascii_lowercase}
use Rattle.std.specs.List.{list_any}
use Rattle.binlog_event_types.specs.NamesOfNumbers.{name_of_number}

-- Two texts are the same, in any case of ASCII letters.
abbrev pub AreAlike : List ℕ → List ℕ → Type 0
AreAlike a b = map to_ascii_lowercase a ≡ map to_ascii_lowercase b

-- The name is the whole one up to its `_EVENT`.
abbrev pub IsShort : (whole name : List ℕ) → Type 0
IsShort whole name = (short : List ℕ) × (whole ≡ short ++ codes "_EVENT") × AreAlike name short

-- The name is the whole one, with or without its `_EVENT`, in any case.
abbrev pub IsNameOf : (whole name : List ℕ) → Type 0
IsNameOf whole name = AreAlike name whole ⊎ IsShort whole name

abbrev pub IsTypeName : Option (List ℕ) → List ℕ → Type 0
IsTypeName (Some whole) name = IsNameOf whole name
IsTypeName None name = ⊥

-- A raw type, of either server, has this name.
abbrev pub IsNamed : ℕ → List ℕ → Type 0
IsNamed number name = (number < 256) × IsTypeName (name_of_number number) name

-- A raw type has one of these names.
abbrev pub IsNamedBy : ℕ → List (List ℕ) → Type 0
IsNamedBy number names = (place : ℕ) × (place < length names) × IsNamed number (slice_index_or names place [])

-- Each of these names is that of a raw type.
abbrev pub HaveTypes : List (List ℕ) → Type 0
HaveTypes names = (place : ℕ) → place < length names → (number : ℕ) × IsNamed number (slice_index_or names place [])

-- One of these names is that of no raw type.
abbrev pub HasNoType : List (List ℕ) → Type 0
HasNoType names = (place : ℕ) × (place < length names) × ((number : ℕ) → IsNamed number (slice_index_or names place []) → ⊥)

-- The number is one of these.
abbrev pub is_among : ℕ → List ℕ → Bool
is_among number numbers = list_any (λ (other : ℕ). other == number) numbers

-- These are the raw types that have one of these names, all of them and no others; and each name is that of one.
pub record AreNamed (names : List (List ℕ)) (types : List ℕ) : Type 0 where
  pub exactly : (number : ℕ) → IsTrue (is_among number types) ↔ IsNamedBy number names
  pub each : HaveTypes names
