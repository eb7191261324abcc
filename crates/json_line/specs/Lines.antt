-- The text of a line: printed tokens.
use Rattle.std.specs.Prelude.{◌≡◌, ℕ, List, [], ◌∷◌, Bool, true, ◌&&◌, IsUtf8}
use Rattle.json.specs.Token.{Token}
use Rattle.json.specs.Run.{is_plain}
use Rattle.json.specs.Print.{print, ends_value, ArePrintable}

-- The text is the print of some tokens, and `after_value` says whether a value has just ended.
pub record IsLine (text : List ℕ) (after_value : Bool) : Type 0 where
  pub printed : List Token
  pub printable : ArePrintable printed
  pub is : text ≡ print printed
  pub place : after_value ≡ ends_value printed
  pub utf8 : IsUtf8 text

-- None of the bytes is a quotation mark, a backslash or a control character.
abbrev pub are_plain : List ℕ → Bool
are_plain [] = true
are_plain (byte ∷ bytes) = is_plain byte && are_plain bytes

-- The text needs no escape in a string.
abbrev pub IsPlainText : List ℕ → Type 0
IsPlainText text = are_plain text ≡ true
