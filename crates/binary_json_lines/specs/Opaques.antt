-- Opaque values as JSON.
use Rattle.std.specs.Prelude.{ℕ, zero, suc, ◌-◌, ◌/◌, ℤ, List, [], ◌∷◌, ◌++◌, length, take, drop, codes, decimal, Option, Some, None}
use Rattle.base64.specs.Engines.{standard}
use Rattle.base64.specs.GeneralPurpose.{encode_of}
use Rattle.json.specs.Token.{Token, number, string}
use Rattle.binary_json.specs.Opaques.{decimal_of, packed_of}
use Rattle.binary_json_lines.specs.Digits.{decimal_text}
use Rattle.binary_json_lines.specs.Times.{time_text}

-- Base64 in lines of 76 characters, which are 57 bytes: so many lines, and a last one.
abbrev pub base64_lines : ℕ → List ℕ → List ℕ
base64_lines zero s = encode_of standard s
base64_lines (suc count) s = encode_of standard (take 57 s) ++ 10 ∷ [] ++ base64_lines count (drop 57 s)

unfoldable pub base64_text : List ℕ → List ℕ
base64_text s = base64_lines ((length s - 1) / 57) s

-- The column type and the bytes: `base64:type252:qrs=`.
unfoldable pub other_text : ℕ → List ℕ → List ℕ
other_text column s = codes "base64:type" ++ decimal column ++ 58 ∷ [] ++ base64_text s

abbrev pub string_of : Option ℤ → ℕ → List ℕ → Token
string_of (Some packed) column s = string (time_text column packed)
string_of None column s = string (other_text column s)

abbrev pub token_of : Option (ℕ × ℕ × List ℕ) → ℕ → List ℕ → Token
token_of (Some d) column s = number (decimal_text d.0 d.1 d.2)
token_of None column s = string_of (packed_of column s) column s

-- A decimal number is a number, and all others are strings.
abbrev pub opaque_token : ℕ → List ℕ → Token
opaque_token column s = token_of (decimal_of column s) column s
