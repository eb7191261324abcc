-- Tags of GTIDs: 1 to 32 ASCII letters, digits and `_`, the first of them not a digit.
-- Source: MySQL's reference manual, "Tagged GTIDs".
use Rattle.std.proofs.Common.{ℕ, Bool, true, cond, eqb, false, ltb, List, [], ◌∷◌, length}
use Rattle.std.specs.Char.{is_ascii_alphabetic, is_ascii_alphanumeric}
use Rattle.std.specs.List.{prefix_len}
use Rattle.binlog_wire.specs.declared.error.Error.{Error}
use Rattle.binlog_wire.specs.declared.error.Error.TheVariants.{InvalidData}
use Rattle.binlog_wire.specs.declared.error.Invalid.TheVariants as kinds

-- The error for a text that isn't a tag.
abbrev pub not_a_tag : Error
not_a_tag = InvalidData kinds.Tag

-- The byte is a letter or `_`.
abbrev pub is_first : ℕ → Bool
is_first b = cond (is_ascii_alphabetic b) true (eqb b 95)

-- The byte is a letter, a digit or `_`.
abbrev pub is_later : ℕ → Bool
is_later b = cond (is_ascii_alphanumeric b) true (eqb b 95)

-- Whether the bytes are a tag.
abbrev pub is_tag : List ℕ → Bool
is_tag [] = false
is_tag (b ∷ s) = cond (is_first b) (cond (ltb (length s) 32) (eqb (prefix_len is_later s) (length s)) false) false
