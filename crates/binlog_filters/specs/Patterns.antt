-- Patterns of names: a `*` (42) stands for any bytes, a `?` (63) for one byte, and any other byte for itself.
use Rattle.std.specs.Prelude.{◌≡◌, ◌⊎◌, ℕ, ◌==◌, Bool, true, false, ◌||◌, List, [], ◌∷◌, ◌++◌, length, Option, Some, None, if◌then◌else◌}
use Rattle.binlog_filters.specs.declared.pattern.Front.{Front}
use Rattle.binlog_filters.specs.declared.pattern.Front.TheVariants.{Differs, Whole, Star}

-- ---- which names match

-- The part of a name for which a byte of a pattern stands.
abbrev pub StandsFor : ℕ → List ℕ → Type 0
StandsFor byte part = (byte ≡ 42) ⊎ (((byte ≡ 63) × (length part ≡ 1)) ⊎ (part ≡ byte ∷ []))

-- The name is the parts for which the bytes of the pattern stand, one after another.
abbrev pub Matches : (pattern name : List ℕ) → Type 0
Matches [] name = name ≡ []
Matches (byte ∷ pattern) name = (part rest : List ℕ) × (name ≡ part ++ rest) × StandsFor byte part × Matches pattern rest

-- ---- whether a name matches

-- Some end of the list is so.
abbrev pub is_any_end : (List ℕ → Bool) → List ℕ → Bool
is_any_end is [] = is []
is_any_end is (x ∷ xs) = is (x ∷ xs) || is_any_end is xs

-- The byte of the pattern stands for this one.
abbrev pub stands_for : ℕ → ℕ → Bool
stands_for wanted byte = (wanted == 63) || (byte == wanted)

-- The first byte stands for one of the name, and the others are so behind it.
abbrev pub is_one_and : (List ℕ → Bool) → ℕ → List ℕ → Bool
is_one_and is wanted [] = false
is_one_and is wanted (byte ∷ name) = if stands_for wanted byte then is name else false

abbrev pub is_empty : List ℕ → Bool
is_empty [] = true
is_empty (x ∷ xs) = false

abbrev pub is_match : (pattern name : List ℕ) → Bool
is_match [] name = is_empty name
is_match (wanted ∷ pattern) name = if wanted == 42 then is_any_end (is_match pattern) name else is_one_and (is_match pattern) wanted name

-- ---- how it is found

-- Some end of the name matches.
abbrev pub some_end : (pattern name : List ℕ) → Bool
some_end pattern name = is_any_end (is_match pattern) name

-- What is behind the first `*` of a pattern, and what is left of a name behind the bytes up to it; Some None if the pattern has no
-- `*` and this is the name; None if the name doesn't begin so.
abbrev pub Rest : Type 0
Rest = Option (Option (List ℕ × List ℕ))

abbrev pub front_behind : (List ℕ → Rest) → ℕ → List ℕ → Rest
front_behind behind wanted [] = None
front_behind behind wanted (byte ∷ name) = if stands_for wanted byte then behind name else None

abbrev pub front : (pattern name : List ℕ) → Rest
front [] name = if is_empty name then Some None else None
front (wanted ∷ pattern) name = if wanted == 42 then Some (Some (pattern, name)) else front_behind (front pattern) wanted name

abbrev pub front_of : Front → Rest
front_of Differs = None
front_of Whole = Some None
front_of (Star behind left) = Some (Some (behind.now, left.now))
