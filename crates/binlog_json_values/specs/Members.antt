-- ENUM and SET values as tokens, by the members that are stated.
use Rattle.std.specs.Prelude.{ℕ, ◌/◌, ◌%◌, ◌^◌, ◌==◌, List, [], ◌∷◌, ◌++◌, length, flat_map, nat_lt, slice_get, Option, None, Some, if◌then◌else◌}
use Rattle.std.specs.Option.{option_and_then}
use Rattle.json.specs.Token.{Token}
use Rattle.json_line.specs.Tokens.{number_value}
use Rattle.character_sets.specs.declared.character_set.CharacterSet.{CharacterSet}
use Rattle.binlog_json_values.specs.Texts.{column_text, comma_in}

-- A text, or else the number.
abbrev pub text_or_number : Option CharacterSet → Option (List ℕ) → ℕ → List Token
text_or_number set None n = number_value n
text_or_number set (Some text) n = column_text set text

-- ---- ENUM

-- The text with this index, counted from 1; that of 0, the value of an error, is empty.
abbrev pub enum_text : ℕ → List (List ℕ) → Option (List ℕ)
enum_text index members = slice_get ([] ∷ members) index

-- An ENUM: the text, else the index.
abbrev pub enum_value : Option CharacterSet → Option (List (List ℕ)) → ℕ → List Token
enum_value set members index = text_or_number set (option_and_then (enum_text index) members) index

-- ---- SET

-- The members whose bits are set; bit 0 is the first.
abbrev pub chosen : List (List ℕ) → ℕ → List (List ℕ)
chosen [] mask = []
chosen (member ∷ members) mask = if mask % 2 == 1 then member ∷ chosen members (mask / 2) else chosen members (mask / 2)

-- Texts, each behind a comma.
abbrev pub after_commas : List ℕ → List (List ℕ) → List ℕ
after_commas comma texts = flat_map (λ text. comma ++ text) texts

-- Texts with a comma between two.
abbrev pub joined : List ℕ → List (List ℕ) → List ℕ
joined comma [] = []
joined comma (text ∷ texts) = text ++ after_commas comma texts

-- The members of a SET with commas between them; none if a bit beyond the members is set.
abbrev pub set_text : List ℕ → ℕ → List (List ℕ) → Option (List ℕ)
set_text comma mask members = if nat_lt mask (2 ^ length members) then Some (joined comma (chosen members mask)) else None

-- A SET: the text, else the mask.
abbrev pub set_value : Option CharacterSet → Option (List (List ℕ)) → ℕ → List Token
set_value set members mask = text_or_number set (option_and_then (set_text (comma_in set) mask) members) mask
