-- Which bytes are a character in a character set.
use Rattle.std.specs.Prelude.{◌≡◌, ◌≤◌, ◌<◌, ℕ, List, [], ◌∷◌, ◌++◌, Some, length, take, drop, encode_utf8}
use Rattle.std.specs.Char.{IsScalar}
use Rattle.std.specs.Char.Escape.{encode_utf16}
use Rattle.std.specs.Int.{w16, w32, from_be_bytes, from_le_bytes}
use Rattle.character_sets.specs.declared.character_set.CharacterSet.{CharacterSet}
use Rattle.character_sets.specs.declared.coding.Coding.{Coding}
use Rattle.character_sets.specs.declared.coding.Coding.TheVariants.{SingleByte, BasicUtf8, Utf8, Ucs2, Utf16, Utf16le, Utf32, Unknown}
use Rattle.character_sets.specs.declared.coding.ByteOrder.{ByteOrder}
use Rattle.character_sets.specs.declared.coding.ByteOrder.TheVariants.{BigEndian, LittleEndian}
use Rattle.character_sets.specs.Coding.{coding_of}
use Rattle.character_sets.specs.SingleByte.{byte_character}

-- The 16-bit unit of two bytes.
abbrev pub unit : ByteOrder → List ℕ → ℕ
unit BigEndian bytes = from_be_bytes w16 bytes
unit LittleEndian bytes = from_le_bytes w16 bytes

-- The bytes are these units, two bytes each.
abbrev pub AreUnits : ByteOrder → List ℕ → List ℕ → Type 0
AreUnits order bytes [] = bytes ≡ []
AreUnits order bytes (u ∷ us) = (2 ≤ length bytes) × (unit order (take 2 bytes) ≡ u) × AreUnits order (drop 2 bytes) us

-- The bytes are the character c in a set of this coding. A set that isn't decoded has no characters here.
abbrev pub SpellsIn : Coding → CharacterSet → List ℕ → ℕ → Type 0
SpellsIn SingleByte set bytes c = (byte : ℕ) × (bytes ≡ byte ∷ []) × (byte_character set byte ≡ Some c)
SpellsIn BasicUtf8 set bytes c = (c < 0x1_0000) × (bytes ≡ encode_utf8 c)
SpellsIn Utf8 set bytes c = bytes ≡ encode_utf8 c
SpellsIn Ucs2 set bytes c = (c < 0x1_0000) × AreUnits BigEndian bytes (c ∷ [])
SpellsIn Utf16 set bytes c = AreUnits BigEndian bytes (encode_utf16 c)
SpellsIn Utf16le set bytes c = AreUnits LittleEndian bytes (encode_utf16 c)
SpellsIn Utf32 set bytes c = (length bytes ≡ 4) × (from_be_bytes w32 bytes ≡ c)
SpellsIn Unknown set bytes c = ⊥

-- The bytes are the character c in the set. Surrogates are no characters.
pub record Spells (set : CharacterSet) (bytes : List ℕ) (c : ℕ) : Type 0 where
  pub scalar : IsScalar c
  pub coded : SpellsIn (coding_of set) set bytes c

-- The bytes begin with the character c, and the rest is behind it.
pub record Begins (set : CharacterSet) (bytes : List ℕ) (c : ℕ) (rest : List ℕ) : Type 0 where
  pub front : List ℕ
  pub spells : Spells set front c
  pub split : bytes ≡ front ++ rest

-- The bytes are the text of these characters: one after another, each as it is spelled in the set.
abbrev pub IsText : CharacterSet → List ℕ → List ℕ → Type 0
IsText set bytes [] = bytes ≡ []
IsText set bytes (c ∷ cs) = (rest : List ℕ) × Begins set bytes c rest × IsText set rest cs
