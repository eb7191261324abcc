-- The characters of a text as a function of its bytes.
use Rattle.std.specs.Prelude.{◌&&◌, ℕ, List, Option, Some, None, chars, encode_utf8_all, if◌then◌else◌}
use Rattle.std.specs.Option.{option_map}
use Rattle.std.specs.Str.{is_utf8}
use Rattle.character_sets.specs.declared.character_set.CharacterSet.{CharacterSet}
use Rattle.character_sets.specs.declared.coding.Coding.{Coding}
use Rattle.character_sets.specs.declared.coding.Coding.TheVariants.{BasicUtf8, Utf8}
use Rattle.character_sets.specs.Coding.{coding_of}
use Rattle.character_sets.specs.Decoding.{decoded}
use Rattle.character_sets.specs.Utf8Texts.{are_in_utf8}

-- The characters of UTF-8, None where the bytes are no text of this coding.
abbrev pub utf8_characters : Coding → List ℕ → Option (List ℕ)
utf8_characters coding bytes = if is_utf8 bytes && are_in_utf8 coding (chars bytes) then Some (chars bytes) else None

abbrev pub characters_in : Coding → CharacterSet → List ℕ → Option (List ℕ)
characters_in BasicUtf8 set bytes = utf8_characters BasicUtf8 bytes
characters_in Utf8 set bytes = utf8_characters Utf8 bytes
characters_in _ set bytes = decoded set bytes

-- The characters of the bytes in a set, None where they are no text: the law `texts_are_read` says that they are those of `IsText`.
unfoldable pub characters_of : CharacterSet → List ℕ → Option (List ℕ)
characters_of set bytes = characters_in (coding_of set) set bytes

-- The same as UTF-8.
abbrev pub utf8_of : CharacterSet → List ℕ → Option (List ℕ)
utf8_of set bytes = option_map encode_utf8_all (characters_of set bytes)
