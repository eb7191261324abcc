-- Laws of the texts of character sets.
use Rattle.std.specs.Prelude.{◌≡◌, ◌≢◌, ◌↔◌, ◌<◌, ◌++◌, ℕ, true, List, Some, map, flat_map, encode_utf8_all}
use Rattle.std.specs.Char.Escape.{encode_utf16}
use Rattle.std.specs.Str.{all_scalars}
use Rattle.character_sets.specs.declared.character_set.CharacterSet.{CharacterSet}
use Rattle.character_sets.specs.declared.character_set.CharacterSet.TheVariants.{Swe7, Utf8mb4, Utf16, Utf16le}
use Rattle.character_sets.specs.declared.coding.Coding.TheVariants as codings
use Rattle.character_sets.specs.declared.coding.ByteOrder.TheVariants.{BigEndian, LittleEndian}
use Rattle.character_sets.specs.Coding.{coding_of}
use Rattle.character_sets.specs.SingleByte.{byte_character}
use Rattle.character_sets.specs.Spellings.{AreUnits, IsText}
use Rattle.character_sets.specs.Characters.{characters_of}

-- Bytes are the text of one list of characters at most.
abbrev pub OneText : Type 0
OneText = (set : CharacterSet) (bytes cs ds : List ℕ) → IsText set bytes cs → IsText set bytes ds → cs ≡ ds

-- The characters of bytes, as a function, are those of their text.
abbrev pub TextsAreRead : Type 0
TextsAreRead = (set : CharacterSet) (bytes cs : List ℕ) → (characters_of set bytes ≡ Some cs) ↔ IsText set bytes cs

-- Texts behind one another are the text of the characters of both.
abbrev pub TextsJoin : Type 0
TextsJoin = (set : CharacterSet) (a b cs ds : List ℕ) → IsText set a cs → IsText set b ds → IsText set (a ++ b) (cs ++ ds)

-- In a single-byte set each byte is a character, by the set's table.
abbrev pub ByTable : Type 0
ByTable = (set : CharacterSet) (bytes cs : List ℕ) → coding_of set ≡ codings.SingleByte → IsText set bytes cs ↔ (map (byte_character set) bytes ≡ map Some cs)

-- ASCII is itself in every single-byte set but swe7.
abbrev pub KeepsAscii : Type 0
KeepsAscii = (set : CharacterSet) (byte : ℕ) → set ≢ Swe7 → byte < 128 → byte_character set byte ≡ Some byte

-- A text of utf8mb4 is the UTF-8 of its characters.
abbrev pub IsStdUtf8 : Type 0
IsStdUtf8 = (bytes cs : List ℕ) → IsText Utf8mb4 bytes cs ↔ ((all_scalars cs ≡ true) × (encode_utf8_all cs ≡ bytes))

-- A text of utf16 and of utf16le has the units of its characters in UTF-16.
abbrev pub IsStdUtf16 : Type 0
IsStdUtf16 = (bytes cs : List ℕ) → (IsText Utf16 bytes cs → AreUnits BigEndian bytes (flat_map encode_utf16 cs)) × (IsText Utf16le bytes cs → AreUnits LittleEndian bytes (flat_map encode_utf16 cs))
