-- Laws of null bitmaps.
use Rattle.std.proofs.Common.{◌≡◌, ℕ, ◌+◌, ◌/◌, ◌<◌, true, List, [], ◌∷◌, ◌++◌, length, drop, get_or, refl, sym, ap, subst, ◌∙◌, arith}
use Rattle.std.proofs.Math.ListN.{get_or-map}
use Rattle.std.proofs.lemmas.List.{length-map, drop-map}
use Rattle.binlog_wire.specs.Bits.{bytes_of_bits}
use Rattle.binlog_images.specs.Bits.{is_set}
use Rattle.binlog_images.specs.NullBits.{null_byte, null_bytes}
use Rattle.binlog_images.proofs.NullBits.{null_is_set as flag_is_set, nulls_len as flags_len}
use Rattle.binlog_row_writing.specs.NewCells.{is_new_null}
use Rattle.binlog_row_writing.specs.NullBits.{null_flags, is_null_at, first_flags, new_nulls}
use Rattle.binlog_row_writing.specs.declared.new_value.NewValue.{NewValue}
use Rattle.binlog_row_writing.specs.declared.new_value.NewValue.TheVariants.{Null}

-- A flag for each value.
flag_count : (values : List NewValue) → length (null_flags values) ≡ length values
flag_count values = length-map values is_new_null

pub nulls_len : (values : List NewValue) → length (new_nulls values) ≡ (length values + 7) / 8
nulls_len values = flags_len (null_flags values) ∙ ap bytes_of_bits (flag_count values)

-- The null bit of each value.
pub null_is_set : (values : List NewValue) (k : ℕ) → k < length values → is_set (length values, new_nulls values) k ≡ is_null_at values k
null_is_set values k less =
    subst (λ (n : ℕ). is_set (n, new_nulls values) k ≡ get_or (null_flags values) k true) (flag_count values) (flag_is_set (null_flags values) k (omega (arith, flag_count values)))
    ∙ get_or-map is_new_null values k Null

-- The first byte is made of the first eight values.
eight_first : (values : List NewValue) → null_byte (first_flags values) ≡ null_byte (null_flags values)
eight_first [] = refl
eight_first (a ∷ []) = refl
eight_first (a ∷ b ∷ []) = refl
eight_first (a ∷ b ∷ c ∷ []) = refl
eight_first (a ∷ b ∷ c ∷ d ∷ []) = refl
eight_first (a ∷ b ∷ c ∷ d ∷ e ∷ []) = refl
eight_first (a ∷ b ∷ c ∷ d ∷ e ∷ f ∷ []) = refl
eight_first (a ∷ b ∷ c ∷ d ∷ e ∷ f ∷ g ∷ []) = refl
eight_first (a ∷ b ∷ c ∷ d ∷ e ∷ f ∷ g ∷ h ∷ others) = refl

pub byte_at : (values : List NewValue) (place : ℕ) → null_byte (first_flags (drop place values)) ≡ null_byte (drop place (null_flags values))
byte_at values place = eight_first (drop place values) ∙ ap null_byte (sym (drop-map is_new_null place values))

-- Before the first byte.
pub nulls_start : (s : List ℕ) (values : List NewValue) → s ++ null_bytes ((length values + 7) / 8) 0 (null_flags values) ≡ s ++ new_nulls values
nulls_start s values = ap (λ (n : ℕ). s ++ null_bytes (bytes_of_bits n) 0 (null_flags values)) (sym (flag_count values))
