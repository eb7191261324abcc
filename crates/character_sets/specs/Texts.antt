-- What is left of a text.
use Rattle.std.specs.Prelude.{◌≡◌, ℕ, true, List, [], is_some, unwrap_or, chars}
use Rattle.character_sets.specs.declared.character_set.CharacterSet.{CharacterSet}
use Rattle.character_sets.specs.declared.characters.Form.{Form}
use Rattle.character_sets.specs.declared.characters.Form.TheVariants.{Utf8, Coded}
use Rattle.character_sets.specs.Decoding.{decoded}
use Rattle.character_sets.specs.Spellings.{IsText}

-- The characters of a text, in either form.
abbrev pub text_of : Form → List ℕ
text_of (Utf8 text) = chars text.now
text_of (Coded set bytes) = unwrap_or (decoded set bytes.now) []

-- Bytes that are to be decoded are a text.
abbrev pub IsSound : Form → Type 0
IsSound (Utf8 text) = Unit {0}
IsSound (Coded set bytes) = is_some (decoded set bytes.now) ≡ true

-- The bytes are the text that is to be read.
abbrev pub HasCharacters : CharacterSet → List ℕ → Form → Type 0
HasCharacters set bytes form = IsSound form × IsText set bytes (text_of form)
