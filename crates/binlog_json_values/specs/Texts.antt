-- Texts of columns as tokens, by the character set that is stated.
use Rattle.std.specs.Prelude.{ℕ, List, [], ◌∷◌, Option, Some}
use Rattle.json.specs.Token.{Token}
use Rattle.json_line.specs.Tokens.{text_value_in_stated}
use Rattle.character_sets.specs.declared.character_set.CharacterSet.{CharacterSet}
use Rattle.character_sets.specs.declared.character_set.CharacterSet.TheVariants.{Ucs2, Utf16, Utf16le, Utf32}

-- A text of a column with this character set, if one is stated.
abbrev pub column_text : Option CharacterSet → List ℕ → List Token
column_text set s = text_value_in_stated set s

-- A comma in a character set: the bytes between two members of a SET.
abbrev pub comma_in : Option CharacterSet → List ℕ
comma_in (Some Ucs2) = 0 ∷ 44 ∷ []
comma_in (Some Utf16) = 0 ∷ 44 ∷ []
comma_in (Some Utf16le) = 44 ∷ 0 ∷ []
comma_in (Some Utf32) = 0 ∷ 0 ∷ 0 ∷ 44 ∷ []
comma_in _ = 44 ∷ []
