-- The first character is one that the bytes begin with, and the only one.
use Rattle.std.proofs.Common.{◌≡◌, ℕ, ◌+◌, ◌-◌, ◌/◌, ◌%◌, ◌<◌, ◌≤◌, Bool, true, false, nat_lt, cond, Some, None, List, [], ◌∷◌, ◌++◌, length, refl, ap, ◌∙◌, arith}
use Rattle.std.specs.Option.{option_map, option_and_then}
use Rattle.std.specs.Char.{IsScalar}
use Rattle.std.specs.Char.Escape.{encode_utf16}
use Rattle.std.specs.Char.Utf16.{is_low_surrogate, is_high_surrogate, surrogate_pair_char}
use Rattle.std.specs.Int.{w32, from_be_bytes}
use Rattle.std.proofs.lemmas.Bool.{le-ltb}
use Rattle.std.proofs.lemmas.Bool.Decides.{nat_tests}
use Rattle.character_sets.specs.declared.character_set.CharacterSet.{CharacterSet}
use Rattle.character_sets.specs.declared.coding.Coding.{Coding}
use Rattle.character_sets.specs.declared.coding.Coding.TheVariants.{SingleByte, BasicUtf8, Utf8, Ucs2, Utf16, Utf16le, Utf32, Unknown}
use Rattle.character_sets.specs.declared.coding.ByteOrder.{ByteOrder}
use Rattle.character_sets.specs.declared.coding.ByteOrder.TheVariants.{BigEndian, LittleEndian}
use Rattle.character_sets.specs.Coding.{coding_of}
use Rattle.character_sets.specs.Spellings.{AreUnits, SpellsIn, Begins}
use Rattle.character_sets.specs.Decoding.{first_unit, first_byte, first_of_ucs2, first_of_utf16, first_behind_unit, surrogate_pair, lone_unit, first_of_utf32, first_in, first_character, number_char, IsNotUtf8}
use Rattle.character_sets.proofs.Scalars.{number_char-scalar, unit_char-scalar}
use Rattle.character_sets.proofs.Units.{FrontUnit-units, first_unit-front}

-- A unit that is the last of some.
last_unit : (order : ByteOrder) (front : List ℕ) (u : ℕ) (rest : List ℕ) → AreUnits order front (u ∷ []) → first_unit order (front ++ rest) ≡ Some (u, rest)
last_unit order front u rest are =
    let (left, is, none) = FrontUnit-units order front u [] are in
    first_unit-front order front u left rest is ∙ ap (λ l. Some (u, l ++ rest)) none

-- ---- What is spelled is first.

ucs2_first : (front rest : List ℕ) (c : ℕ) → IsScalar c → c < 0x1_0000 → AreUnits BigEndian front (c ∷ []) → first_of_ucs2 (front ++ rest) ≡ Some (c, rest)
unfolding first_of_ucs2
ucs2_first front rest c scalar basic are =
    ap (option_and_then lone_unit) (last_unit BigEndian front c rest are)
    ∙ ap (option_map (λ d. (d, rest))) (unit_char-scalar c scalar basic)

-- The units of a pair, and that they are one.
record IsPairOf (c high low : ℕ) : Type 0 where
  high_is : is_high_surrogate high ≡ true
  low_is : is_low_surrogate low ≡ true
  char_is : surrogate_pair_char high low ≡ c

pair_of : (c : ℕ) → IsScalar c → 0x1_0000 ≤ c → IsPairOf c (0xD800 + (c - 0x1_0000) / 0x400) (0xDC00 + (c - 0x1_0000) % 0x400)
pair_of c scalar above = record { high_is = grind (arith, nat_tests); low_is = grind (arith, nat_tests); char_is = omega arith }

not_high : (c : ℕ) → IsScalar c → is_high_surrogate c ≡ false
not_high c scalar = grind (arith, nat_tests)

utf16_first_basic : (order : ByteOrder) (front rest : List ℕ) (c : ℕ) → IsScalar c → c < 0x1_0000 → AreUnits order front (c ∷ []) → first_of_utf16 order (front ++ rest) ≡ Some (c, rest)
unfolding first_of_utf16 first_behind_unit
utf16_first_basic order front rest c scalar basic are =
    ap (option_and_then (first_behind_unit order)) (last_unit order front c rest are)
    ∙ ap (λ b. cond b (option_and_then (surrogate_pair c) (first_unit order rest)) (lone_unit (c, rest))) (not_high c scalar)
    ∙ ap (option_map (λ d. (d, rest))) (unit_char-scalar c scalar basic)

utf16_first_pair : (order : ByteOrder) (front rest : List ℕ) (c high low : ℕ) → IsPairOf c high low → AreUnits order front (high ∷ low ∷ []) → first_of_utf16 order (front ++ rest) ≡ Some (c, rest)
unfolding first_of_utf16 first_behind_unit
utf16_first_pair order front rest c high low is are =
    let (left, at, last) = FrontUnit-units order front high (low ∷ []) are in
    ap (option_and_then (first_behind_unit order)) (first_unit-front order front high left rest at)
    ∙ ap (λ b. cond b (option_and_then (surrogate_pair high) (first_unit order (left ++ rest))) (lone_unit (high, left ++ rest))) is.high_is
    ∙ ap (option_and_then (surrogate_pair high)) (last_unit order left low rest last)
    ∙ ap (λ b. cond b (Some (surrogate_pair_char high low, rest)) None) is.low_is
    ∙ ap (λ d. Some (d, rest)) is.char_is

utf16_first_by : (order : ByteOrder) (front rest : List ℕ) (c : ℕ) (basic : Bool) → nat_lt c 0x1_0000 ≡ basic → IsScalar c
    → AreUnits order front (cond basic (c ∷ []) ((0xD800 + (c - 0x1_0000) / 0x400) ∷ (0xDC00 + (c - 0x1_0000) % 0x400) ∷ [])) → first_of_utf16 order (front ++ rest) ≡ Some (c, rest)
utf16_first_by order front rest c true is scalar are = utf16_first_basic order front rest c scalar (grind (arith, nat_tests)) are
utf16_first_by order front rest c false is scalar are = utf16_first_pair order front rest c _ _ (pair_of c scalar (grind (arith, nat_tests))) are

utf16_first : (order : ByteOrder) (front rest : List ℕ) (c : ℕ) → IsScalar c → AreUnits order front (encode_utf16 c) → first_of_utf16 order (front ++ rest) ≡ Some (c, rest)
utf16_first order front rest c scalar are = utf16_first_by order front rest c (nat_lt c 0x1_0000) refl scalar are

utf32_first : (front rest : List ℕ) (c : ℕ) → IsScalar c → length front ≡ 4 → from_be_bytes w32 front ≡ c → first_of_utf32 (front ++ rest) ≡ Some (c, rest)
unfolding first_of_utf32
utf32_first [] rest c scalar four is = absurd (omega (arith, four))
utf32_first (x ∷ []) rest c scalar four is = absurd (omega (arith, four))
utf32_first (x ∷ y ∷ []) rest c scalar four is = absurd (omega (arith, four))
utf32_first (x ∷ y ∷ z ∷ []) rest c scalar four is = absurd (omega (arith, four))
utf32_first (x ∷ y ∷ z ∷ w ∷ []) rest c scalar four is =
    rw (le-ltb (length (x ∷ y ∷ z ∷ w ∷ rest)) 4 (omega arith)) (ap (λ n. option_map (λ d. (d, rest)) (number_char n)) is ∙ ap (option_map (λ d. (d, rest))) (number_char-scalar c scalar))
utf32_first (x ∷ y ∷ z ∷ w ∷ v ∷ more) rest c scalar four is = absurd (omega (arith, four))

first_in-spelled : (coding : Coding) (set : CharacterSet) (front rest : List ℕ) (c : ℕ) → IsNotUtf8 coding → IsScalar c → SpellsIn coding set front c → first_in coding set (front ++ rest) ≡ Some (c, rest)
unfolding first_byte
first_in-spelled SingleByte set front rest c other scalar (byte, split, is) = ap (λ f. first_byte set (f ++ rest)) split ∙ ap (option_map (λ d. (d, rest))) is
first_in-spelled BasicUtf8 set front rest c other scalar is = absurd other
first_in-spelled Utf8 set front rest c other scalar is = absurd other
first_in-spelled Ucs2 set front rest c other scalar (basic, are) = ucs2_first front rest c scalar basic are
first_in-spelled Utf16 set front rest c other scalar are = utf16_first BigEndian front rest c scalar are
first_in-spelled Utf16le set front rest c other scalar are = utf16_first LittleEndian front rest c scalar are
first_in-spelled Utf32 set front rest c other scalar (four, is) = utf32_first front rest c scalar four is
first_in-spelled Unknown set front rest c other scalar is = absurd is

-- A character that the bytes begin with is the first.
pub first_character-begins : (set : CharacterSet) (bytes : List ℕ) (c : ℕ) (rest : List ℕ) → IsNotUtf8 (coding_of set) → Begins set bytes c rest → first_character set bytes ≡ Some (c, rest)
unfolding first_character
first_character-begins set bytes c rest other is =
    ap (first_in (coding_of set) set) is.split ∙ first_in-spelled (coding_of set) set is.front rest c other is.spells.scalar is.spells.coded
