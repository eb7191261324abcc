-- The status variables whose layouts are known: those that the table of keys lists, and unlisted ones, which only MariaDB writes, or
-- MySQL from 9.7 on.
-- Sources of the unlisted ones: MariaDB's documentation, "QUERY_EVENT", and what both servers write.
use Rattle.std.specs.Prelude.{◌≡◌, ◌⊎◌, ℕ, zero, suc, ◌≤◌, ◌*◌, ◌==◌, cond, List, [], ◌∷◌, ◌++◌, length, take, drop, flat_map, All, Option, Some, None, if◌then◌else◌}
use Rattle.binlog_file.specs.Layouts.{HasLength, fixed_len, plus}
use Rattle.binlog_file.specs.StatusVariables.{Variable, variable_bytes, IsWhole, first_variable}
use Rattle.binlog_mariadb.specs.Gtids.{has_alter}

-- ---- the values of unlisted variables

-- The number of bytes after the first one of a GTID's extra flags: the second, and the eight of a sequence number if they announce it.
abbrev pub behind_flags : ℕ → ℕ
behind_flags first = cond (has_alter first) 9 1

-- The number of bytes of n pairs of collations: four each.
abbrev pub behind_count : ℕ → ℕ
behind_count n = 4 * n

-- The length of one byte and as many as it announces, if all of them are there.
abbrev pub announced_len : (ℕ → ℕ) → List ℕ → Option ℕ
announced_len count [] = None
announced_len count (first ∷ s) = plus 1 (fixed_len (count first) s)

-- The length of the value of the unlisted variable with this number at the start of the bytes, if there is a whole one:
-- `enable_cascade_triggers` of MySQL; and of MariaDB the microseconds of the statement's start time, the XID of a definition, the extra
-- flags of the statement's GTID, and `character_set_collations`.
unfoldable pub unlisted_len : (number : ℕ) → List ℕ → Option ℕ
unlisted_len number s =
    if number == 21 then fixed_len 1 s
    else if number == 128 then fixed_len 3 s
    else if number == 129 then fixed_len 8 s
    else if number == 130 then announced_len behind_flags s
    else if number == 131 then announced_len behind_count s
    else None

-- ---- the variables of a text, listed or not

-- A variable: one that is listed, or the number and the bytes of the value of one that isn't.
pub data Known : Type 0 where
  listed : Variable → Known
  unlisted : ℕ → List ℕ → Known

-- The unlisted variable with this number at the start of the bytes, and the bytes after its value.
abbrev pub unlisted_at : ℕ → List ℕ → Option ℕ → Option (Known × List ℕ)
unlisted_at number s None = None
unlisted_at number s (Some n) = Some (unlisted number (take n s), drop n s)

-- The unlisted variable at the start of a text and the bytes after it, if the text begins with a whole one.
abbrev pub first_unlisted : List ℕ → Option (Known × List ℕ)
first_unlisted [] = None
first_unlisted (number ∷ s) = unlisted_at number s (unlisted_len number s)

-- The listed variable and the bytes after it, or else what the text begins with.
abbrev pub first_by : Option (Variable × List ℕ) → (text : List ℕ) → Option (Known × List ℕ)
first_by (Some x) text = Some (listed x.0, x.1)
first_by None text = first_unlisted text

-- The first variable of a text and the bytes after it, if the text begins with a whole one.
abbrev pub first_known : List ℕ → Option (Known × List ℕ)
first_known text = first_by (first_variable text) text

-- A first variable, and those of the bytes after it.
abbrev pub with_others : Option (Known × List ℕ) → (List ℕ → List Known) → List Known
with_others None others = []
with_others (Some x) others = x.0 ∷ others x.1

-- The first n variables of a text, or all if there are fewer.
abbrev pub known_within : ℕ → List ℕ → List Known
known_within zero text = []
known_within (suc n) text = with_others (first_known text) (known_within n)

-- The variables of a text: one after the other, as long as it goes on with a whole one. A law proves that they are its longest prefix of
-- whole variables.
unfoldable pub known_variables : List ℕ → List Known
known_variables text = known_within (length text) text

-- ---- which list that is

-- A variable's encoding: the number (1 byte) and the value.
abbrev pub known_bytes : Known → List ℕ
known_bytes (listed v) = variable_bytes v
known_bytes (unlisted number value) = number ∷ value

-- The value is one byte, and as many as it announces.
abbrev pub IsAnnounced : (ℕ → ℕ) → List ℕ → Type 0
IsAnnounced count value = (first : ℕ) × (others : List ℕ) × (value ≡ first ∷ others) × (length others ≡ count first)

-- The number is that of an unlisted variable, and the value is a whole one of it.
abbrev pub IsUnlisted : (number : ℕ) → (value : List ℕ) → Type 0
IsUnlisted number value =
    ((number ≡ 21) × HasLength 1 value)
    ⊎ (((number ≡ 128) × HasLength 3 value)
    ⊎ (((number ≡ 129) × HasLength 8 value)
    ⊎ (((number ≡ 130) × IsAnnounced behind_flags value)
    ⊎ ((number ≡ 131) × IsAnnounced behind_count value))))

-- The variable is one, and its value is whole.
abbrev pub IsWholeKnown : Known → Type 0
IsWholeKnown (listed v) = IsWhole v
IsWholeKnown (unlisted number value) = IsUnlisted number value

-- The text is these whole variables, followed by the rest.
pub record BeginsWithKnown (text : List ℕ) (vars : List Known) (rest : List ℕ) : Type 0 where
  pub is : text ≡ flat_map known_bytes vars ++ rest
  pub whole : All IsWholeKnown vars

-- The longest prefix of the text that is a list of whole variables, listed or not.
pub record AreKnownOf (text : List ℕ) (vars : List Known) : Type 0 where
  pub rest : List ℕ
  pub front : BeginsWithKnown text vars rest
  pub longest : (others : List Known) (left : List ℕ) → BeginsWithKnown text others left → length (flat_map known_bytes others) ≤ length (flat_map known_bytes vars)
