-- The characters of a text in a set that isn't UTF-8, from the first on.
use Rattle.std.specs.Prelude.{◌≡◌, ℕ, zero, suc, List, [], ◌∷◌, Option, Some, None, MatchOption, length, take, drop, nat_lt, if◌then◌else◌}
use Rattle.std.specs.Option.{option_map, option_and_then}
use Rattle.std.specs.Char.Utf16.{is_low_surrogate, is_high_surrogate, surrogate_pair_char, lone_unit_char}
use Rattle.std.specs.Int.{w32, from_be_bytes}
use Rattle.character_sets.specs.declared.character_set.CharacterSet.{CharacterSet}
use Rattle.character_sets.specs.declared.coding.Coding.{Coding}
use Rattle.character_sets.specs.declared.coding.Coding.TheVariants.{SingleByte, BasicUtf8, Utf8, Ucs2, Utf16, Utf16le, Utf32}
use Rattle.character_sets.specs.declared.coding.ByteOrder.{ByteOrder}
use Rattle.character_sets.specs.declared.coding.ByteOrder.TheVariants.{BigEndian, LittleEndian}
use Rattle.character_sets.specs.Coding.{coding_of}
use Rattle.character_sets.specs.SingleByte.{byte_character}
use Rattle.character_sets.specs.Spellings.{unit}

-- What is first of some bytes, and the bytes behind it.
abbrev pub First : Type 0
First = Option (ℕ × List ℕ)

-- A function gives what is first, and where the bytes behind it are.
abbrev pub Gives : {A B : Type 0} → (A → B) → Option A → Option B → Type 0
Gives view result first = MatchOption result (first ≡ None) (λ x. first ≡ Some (view x))

-- The first unit.
unfoldable pub first_unit : ByteOrder → List ℕ → First
first_unit order bytes = if nat_lt (length bytes) 2 then None else Some (unit order (take 2 bytes), drop 2 bytes)

-- The first character of single bytes.
unfoldable pub first_byte : CharacterSet → List ℕ → First
first_byte set [] = None
first_byte set (byte ∷ rest) = option_map (λ c. (c, rest)) (byte_character set byte)

-- The character of a unit that is in no pair: a unit has 16 bits, and is no surrogate.
abbrev pub unit_char : ℕ → Option ℕ
unit_char u = if nat_lt u 0x1_0000 then lone_unit_char u else None

-- The same, with what is behind it.
abbrev pub lone_unit : ℕ × List ℕ → First
lone_unit x = option_map (λ c. (c, x.1)) (unit_char x.0)

-- The first character of units that are no pairs.
unfoldable pub first_of_ucs2 : List ℕ → First
first_of_ucs2 bytes = option_and_then lone_unit (first_unit BigEndian bytes)

-- A high surrogate and the low one behind it, as a character.
abbrev pub surrogate_pair : ℕ → ℕ × List ℕ → First
surrogate_pair high x = if is_low_surrogate x.0 then Some (surrogate_pair_char high x.0, x.1) else None

-- A character whose first unit was read.
unfoldable pub first_behind_unit : ByteOrder → ℕ × List ℕ → First
first_behind_unit order x = if is_high_surrogate x.0 then option_and_then (surrogate_pair x.0) (first_unit order x.1) else lone_unit x

-- The first character of UTF-16.
unfoldable pub first_of_utf16 : ByteOrder → List ℕ → First
first_of_utf16 order bytes = option_and_then (first_behind_unit order) (first_unit order bytes)

-- The character of a number, which is none from 0x110000 on.
abbrev pub number_char : ℕ → Option ℕ
number_char n = if nat_lt n 0x11_0000 then lone_unit_char n else None

-- The first character of UTF-32.
unfoldable pub first_of_utf32 : List ℕ → First
first_of_utf32 bytes = if nat_lt (length bytes) 4 then None else option_map (λ c. (c, drop 4 bytes)) (number_char (from_be_bytes w32 (take 4 bytes)))

-- The coding isn't UTF-8, which std decodes.
abbrev pub IsNotUtf8 : Coding → Type 0
IsNotUtf8 BasicUtf8 = ⊥
IsNotUtf8 Utf8 = ⊥
IsNotUtf8 _ = Unit {0}

-- The first character in a set of this coding, but for UTF-8.
abbrev pub first_in : Coding → CharacterSet → List ℕ → First
first_in SingleByte set bytes = first_byte set bytes
first_in Ucs2 set bytes = first_of_ucs2 bytes
first_in Utf16 set bytes = first_of_utf16 BigEndian bytes
first_in Utf16le set bytes = first_of_utf16 LittleEndian bytes
first_in Utf32 set bytes = first_of_utf32 bytes
first_in _ set bytes = None

-- The first character in a set.
unfoldable pub first_character : CharacterSet → List ℕ → First
first_character set bytes = first_in (coding_of set) set bytes

-- A character and those behind it.
abbrev pub with_front : ℕ → Option (List ℕ) → Option (List ℕ)
with_front c others = option_map (λ cs. c ∷ cs) others

-- The characters of the bytes, None where they are no text, of at most so many characters.
unfoldable pub decoded_within : ℕ → CharacterSet → List ℕ → Option (List ℕ)
decoded_within most set [] = Some []
decoded_within zero set (b ∷ bs) = None
decoded_within (suc most) set (b ∷ bs) = option_and_then (λ x. with_front x.0 (decoded_within most set x.1)) (first_character set (b ∷ bs))

-- The characters of the bytes, None where they are no text. A character is a byte at least.
abbrev pub decoded : CharacterSet → List ℕ → Option (List ℕ)
decoded set bytes = decoded_within (length bytes) set bytes
