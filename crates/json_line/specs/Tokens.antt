-- The parts of a line as tokens of JSON.
use Rattle.std.specs.Prelude.{◌≡◌, ℕ, Bool, true, false, List, [], ◌∷◌, ◌++◌, length, cond, nat_eq, codes, decimal, IsAscii, IsUtf8, Option, Some, None, Result, OnOk}
use Rattle.std.specs.Str.Lossy.{utf8_valid_len}
use Rattle.character_sets.specs.declared.character_set.CharacterSet.{CharacterSet}
use Rattle.character_sets.specs.declared.character_set.CharacterSet.TheVariants.{Binary}
use Rattle.character_sets.specs.Characters.{utf8_of}
use Rattle.hex.specs.Hex.{encode_lower}
use Rattle.uuid.specs.Text.{hyphenated_text, lower}
use Rattle.json.specs.Token.{Token, begin_object, end_object, begin_array, end_array, key, string, number, null}

-- These tokens are appended, unless an allocation fails.
abbrev pub Adds : {A E : Type 0} → Result A E → List Token → List Token → List Token → Type 0
Adds result old new tokens = OnOk result (new ≡ old ++ tokens)

-- The token is appended if the text is UTF-8, and the answer is true. Else nothing is.
abbrev pub AddsIfUtf8 : Bool → List ℕ → Token → List Token → List Token → Type 0
AddsIfUtf8 true text token old new = IsUtf8 text × (new ≡ old ++ token ∷ [])
AddsIfUtf8 false text token old new = (IsUtf8 text → ⊥) × (new ≡ old)

-- The string is appended if the answer is true: then the text is ASCII. Else nothing is.
abbrev pub AddsIfPlain : Bool → List ℕ → List Token → List Token → Type 0
AddsIfPlain true text old new = IsAscii text × (new ≡ old ++ string text ∷ [])
AddsIfPlain false text old new = new ≡ old

-- ---- values

-- A number with all its digits.
abbrev pub number_value : ℕ → List Token
number_value n = number (decimal n) ∷ []

-- Bytes as a string of hexadecimal digits.
abbrev pub bytes_value : List ℕ → List Token
bytes_value bytes = string (encode_lower bytes) ∷ []

-- An object with the hexadecimal digits of bytes.
abbrev pub hex_value : List ℕ → List Token
hex_value bytes = begin_object ∷ key (codes "hex") ∷ string (encode_lower bytes) ∷ end_object ∷ []

-- A string if the bytes are UTF-8, else an object with their hexadecimal digits.
abbrev pub text_value : List ℕ → List Token
text_value text = cond (nat_eq (utf8_valid_len text) (length text)) (string text ∷ []) (hex_value text)

-- A string of this UTF-8, or else an object with the hexadecimal digits of bytes.
abbrev pub string_or_hex : Option (List ℕ) → List ℕ → List Token
string_or_hex (Some utf8) bytes = string utf8 ∷ []
string_or_hex None bytes = hex_value bytes

-- A text in a character set: a string of its characters if the bytes are one, else an object with their hexadecimal digits.
abbrev pub text_value_in : CharacterSet → List ℕ → List Token
text_value_in set text = string_or_hex (utf8_of set text) text

-- A text in the character set that is stated. Where none is, or it is `binary`, bytes that are UTF-8 are a string.
abbrev pub text_value_in_stated : Option CharacterSet → List ℕ → List Token
text_value_in_stated None text = text_value text
text_value_in_stated (Some Binary) text = text_value text
text_value_in_stated (Some set) text = text_value_in set text

-- A UUID: a string of 36 characters.
abbrev pub uuid_value : List ℕ → List Token
uuid_value bytes = string (hyphenated_text lower bytes) ∷ []

-- A value, or null.
abbrev pub or_null : {A : Type 0} → (A → List Token) → Option A → List Token
or_null value None = null ∷ []
or_null value (Some x) = value x

-- ---- members of objects

-- A member with this name and value.
abbrev pub member : List ℕ → List Token → List Token
member name value = key name ∷ value

-- A member with bytes; nothing if there are none.
abbrev pub bytes_member_if_any : List ℕ → List ℕ → List Token
bytes_member_if_any name [] = []
bytes_member_if_any name (byte ∷ bytes) = member name (bytes_value (byte ∷ bytes))

-- An object with these members.
abbrev pub object : List Token → List Token
object members = begin_object ∷ (members ++ end_object ∷ [])

-- An array with these items.
abbrev pub array : List Token → List Token
array items = begin_array ∷ (items ++ end_array ∷ [])
