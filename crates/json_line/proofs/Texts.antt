-- Which bytes are UTF-8, and how texts are printed.
use Rattle.std.proofs.Common.{◌≡◌, ℕ, List, [], ◌∷◌, refl, lit<, Bool, true, ◌&&◌, ltb, T}
use lib.Ieee.Fits.{and_l, and_r}
use Rattle.std.proofs.lemmas.Bool.{eq-eqb}
use Rattle.std.proofs.lemmas.Str.{IsUtf8-from_ascii, utf8_valid_len-IsUtf8}
use Rattle.std.proofs.lemmas.Str.Ascii.{IsAscii-cons, IsAscii-nil}
use Rattle.std.specs.Str.{IsUtf8, IsAscii}
use Rattle.hex.specs.Hex.{encode_lower, lower_digits}
use Rattle.hex.proofs.HexLemmas.{IsAscii-encode_with}
use Rattle.json.specs.Token.{string}
use Rattle.json_line.specs.Tokens.{text_value}

-- Each byte is below 128.
abbrev are_below : List ℕ → Bool
are_below [] = true
are_below (b ∷ bs) = ltb b 128 && are_below bs

from_test : (bs : List ℕ) → T (are_below bs) → IsAscii bs
from_test [] h = IsAscii-nil
from_test (b ∷ bs) h = IsAscii-cons b bs (lit< (and_l _ (are_below bs) h)) (from_test bs (and_r _ (are_below bs) h))

are_digits : IsAscii lower_digits
are_digits = from_test lower_digits tt

-- Hexadecimal digits are UTF-8.
pub digits_are_text : (bytes : List ℕ) → IsUtf8 (encode_lower bytes)
digits_are_text bytes = IsUtf8-from_ascii _ (IsAscii-encode_with lower_digits bytes are_digits)

-- Bytes that are UTF-8 are printed as a string.
pub text_is_string : (text : List ℕ) → IsUtf8 text → text_value text ≡ string text ∷ []
text_is_string text is = rw (eq-eqb _ _ (utf8_valid_len-IsUtf8 text is)) refl
