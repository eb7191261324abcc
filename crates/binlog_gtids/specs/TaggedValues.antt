-- The values and ids of the fields of a GTID with a tag, and what ends the fields.
-- Source: MySQL's source documentation, `Gtid_event`, and the documentation of its serialization library.
use Rattle.std.proofs.Common.{ℕ, ◌/◌, ◌%◌, cond, eqb, Result, Ok, Err, ◌⊎◌, List, inl, inr, [], Bool, true, false, ◌∷◌, ltb, ◌≡◌, ◌<◌, suc}
use Rattle.binlog_wire.specs.declared.error.Invalid.{Invalid}
use Rattle.binlog_wire.specs.Reading.{Read}
use Rattle.binlog_wire.specs.declared.error.Invalid.TheVariants as kinds
use Rattle.binlog_variable_fields.specs.Varlen.{IsVarlen, varlen_at}
use Rattle.binlog_gtids.specs.FieldIds.{last_known_id}

-- ---- values

-- A signed number that isn't negative; it is encoded as twice its value.
abbrev pub halved : ℕ → ℕ → Result ℕ Invalid
halved id n = cond (eqb (n % 2) 0) (Ok (n / 2)) (Err (kinds.Negative id))

-- ---- fields

-- A number, or bytes.
abbrev pub Value : Type 0
Value = ℕ ⊎ List ℕ

-- The number of a value.
abbrev pub number_in : Value → ℕ
number_in (inl n) = n
number_in (inr s) = 0

-- The bytes of a value.
abbrev pub bytes_in : Value → List ℕ
bytes_in (inl n) = []
bytes_in (inr s) = s

-- The id is one of these.
abbrev pub is_any : List ℕ → ℕ → Bool
is_any [] id = false
is_any (i ∷ is) id = cond (eqb id i) true (is_any is id)

-- The ids 0 to 11 are known; any other is invalid.
abbrev pub known : ℕ → Result ℕ Invalid
known id = cond (ltb id (suc last_known_id)) (Ok id) (Err (kinds.UnknownField id))

-- ---- the end of the fields

-- No bytes, or an unknown field id that may be ignored, followed by any bytes.
abbrev pub IsTail : ℕ → List ℕ → Type 0
IsTail last_id x = (x ≡ []) ⊎ ((id : ℕ) × (m : List ℕ) × IsVarlen x id m × (last_known_id < id) × (last_id < id))

-- An id was read that is unknown and above the last non-ignorable one.
abbrev pub ignored : ℕ → Read ℕ → Bool
ignored last_id (Ok x) = cond (ltb last_known_id x.0) (ltb last_id x.0) false
ignored last_id (Err e) = false

-- The test for `IsTail`.
abbrev pub is_tail : ℕ → List ℕ → Bool
is_tail last_id [] = true
is_tail last_id (b ∷ s) = ignored last_id (varlen_at (b ∷ s))
