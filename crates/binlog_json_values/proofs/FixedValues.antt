-- Values whose text is fixed.
use Rattle.std.proofs.Common.{◌≡◌, ℕ, List, refl}
use Rattle.std.specs.Borrow.{Bor}
use Rattle.binlog_values.specs.Values.{meaning_of, content_of}
use Rattle.binlog_values.specs.declared.value.Value.{Value}
use Rattle.binlog_values.specs.declared.value.Value.TheVariants as values
use Rattle.binlog_values.specs.declared.floats.Float.{Float}
use Rattle.binlog_values.specs.declared.floats.Double.{Double}
use Rattle.binlog_values.specs.declared.times.Timestamp2.{Timestamp2}
use Rattle.binlog_optional_metadata.specs.Facts.{Facts}
use Rattle.binlog_json_values.specs.Parts.{exact}
use Rattle.binlog_json_values.specs.Values.{value_tokens, value_parts}

-- The parts of a value of none of the other types are its tokens.
pub fixed_parts : (facts : Facts) (value : Value)
    → ((x : Float) → value ≡ values.Float x → ⊥) → ((x : Double) → value ≡ values.Double x → ⊥) → ((n : ℕ) → value ≡ values.Timestamp n → ⊥) → ((t : Timestamp2) → value ≡ values.Timestamp2 t → ⊥) → ((s : Bor (List ℕ)) → value ≡ values.Json s → ⊥)
    → value_parts facts (meaning_of value) (content_of value) ≡ exact (value_tokens facts (meaning_of value) (content_of value))
fixed_parts facts (values.Float x) a b c d e = absurd (a x refl)
fixed_parts facts (values.Double x) a b c d e = absurd (b x refl)
fixed_parts facts (values.Timestamp n) a b c d e = absurd (c n refl)
fixed_parts facts (values.Timestamp2 t) a b c d e = absurd (d t refl)
fixed_parts facts values.Null a b c d e = refl
fixed_parts facts (values.Integer x) a b c d e = refl
fixed_parts facts (values.Decimal x) a b c d e = refl
fixed_parts facts (values.Date x) a b c d e = refl
fixed_parts facts (values.Year x) a b c d e = refl
fixed_parts facts (values.Time x) a b c d e = refl
fixed_parts facts (values.DateTime x) a b c d e = refl
fixed_parts facts (values.DateTime2 x) a b c d e = refl
fixed_parts facts (values.Time2 x) a b c d e = refl
fixed_parts facts (values.Bit x) a b c d e = refl
fixed_parts facts (values.Enum x) a b c d e = refl
fixed_parts facts (values.Set x) a b c d e = refl
fixed_parts facts (values.Bytes x) a b c d e = refl
fixed_parts facts (values.Json s) a b c d e = absurd (e s refl)
fixed_parts facts (values.Geometry x) a b c d e = refl
fixed_parts facts (values.Vector x) a b c d e = refl
fixed_parts facts (values.Compressed x) a b c d e = refl
