-- JSON values, as MySQL stores them.
use Rattle.std.specs.Prelude.{◌≡◌, ◌⊎◌, ℕ, ℤ, suc, max, List, [], ◌∷◌, Bool, Option, Some, None}

-- A value that holds no other values. Integers keep the width of their type. A double is given by its bits, a string by its
-- bytes, and an opaque value by its column type and its bytes.
pub data Scalar : Type 0 where
  null : Scalar
  boolean : Bool → Scalar
  int16 : ℤ → Scalar
  uint16 : ℕ → Scalar
  int32 : ℤ → Scalar
  uint32 : ℕ → Scalar
  int64 : ℤ → Scalar
  uint64 : ℕ → Scalar
  double : ℕ → Scalar
  string : List ℕ → Scalar
  opaque : ℕ → List ℕ → Scalar

-- The entries of an object have a key each, those of an array have none. They are in the order in which they are stored, and a
-- key may come twice.
mutual
  pub data Json : Type 0 where
    scalar : Scalar → Json
    array : Entries → Json
    object : Entries → Json

  pub data Entries : Type 0 where
    no_entries : Entries
    entry : Option (List ℕ) → Json → Entries → Entries

-- How many arrays and objects are within one another.
abbrev mutual
  pub nesting : Json → ℕ
  nesting (scalar x) = 0
  nesting (array es) = suc (entries_nesting es)
  nesting (object es) = suc (entries_nesting es)

  pub entries_nesting : Entries → ℕ
  entries_nesting no_entries = 0
  entries_nesting (entry key v es) = max (nesting v) (entries_nesting es)

-- The values of entries, in order.
abbrev pub values : Entries → List Json
values no_entries = []
values (entry key v es) = v ∷ values es

-- The keys and values of the entries of an object, in order.
abbrev pub members : Entries → List (List ℕ × Json)
members no_entries = []
members (entry None v es) = members es
members (entry (Some key) v es) = (key, v) ∷ members es

-- ---- members by their keys

-- This is the value of the first member with this key.
abbrev pub IsFirstOfKey : List ℕ → Json → List (List ℕ × Json) → Type 0
IsFirstOfKey key v [] = ⊥
IsFirstOfKey key v (m ∷ ms) = ((m.0 ≡ key) × (m.1 ≡ v)) ⊎ ((m.0 ≡ key → ⊥) × IsFirstOfKey key v ms)

-- No member has this key.
abbrev pub HasNoKey : List ℕ → List (List ℕ × Json) → Type 0
HasNoKey key [] = Unit {0}
HasNoKey key (m ∷ ms) = (m.0 ≡ key → ⊥) × HasNoKey key ms
