-- Numbers, as tokens.
use Rattle.std.specs.Prelude.{ℕ, Bool, true, false, List, [], ◌∷◌, from_bits, if◌then◌else◌}
use Rattle.std.specs.Float.{Float, Format, binary32, binary64, float_is_finite}
use Rattle.std.specs.Fmt.{signed_decimal}
use Rattle.byteorder.specs.Endian.{twos_complement}
use Rattle.json.specs.Token.{Token, number, null}
use Rattle.json_line.specs.Tokens.{number_value}
use Rattle.binlog_json_values.specs.Parts.{Part, exactly, reading_back}

-- An integer of this many bytes; in two's complement, unless the column is UNSIGNED.
abbrev pub integer_value : Bool → ℕ → ℕ → List Token
integer_value true size bits = number_value bits
integer_value false size bits = number (signed_decimal (twos_complement size bits)) ∷ []

-- A floating-point number; null if it isn't finite.
abbrev pub float_parts : Format → Float → List Part
float_parts f x = if float_is_finite x then reading_back f x ∷ [] else exactly null ∷ []

-- A floating-point number of four bytes.
abbrev pub single_parts : ℕ → List Part
single_parts bits = float_parts binary32 (from_bits binary32 bits)

-- A floating-point number of eight bytes.
abbrev pub double_parts : ℕ → List Part
double_parts bits = float_parts binary64 (from_bits binary64 bits)
