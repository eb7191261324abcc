-- The laws of texts.
use Rattle.std.proofs.Common.{◌≡◌, ◌≢◌, ℕ, zero, suc, ◌+◌, ◌-◌, ◌<◌, ◌⊎◌, inl, inr, Bool, true, false, ◌&&◌, cond, Some, List, [], ◌∷◌, ◌++◌, map, length, get_or, refl, ap, sym, ◌∙◌, subst, append_assoc, arith}
use Rattle.std.specs.Prelude.{◌==◌, flat_map}
use Rattle.std.specs.Char.Escape.{encode_utf16}
use Rattle.std.proofs.lemmas.Bool.{lt-ltb}
use Rattle.std.proofs.lemmas.Bool.Decides.{nat_tests}
use Rattle.std.proofs.lemmas.Str.{encodes_same}
use Rattle.character_sets.specs.declared.character_set.CharacterSet.{CharacterSet}
use Rattle.character_sets.specs.declared.character_set.CharacterSet.TheVariants.{Swe7, Utf8mb4, Utf16, Utf16le}
use Rattle.character_sets.specs.declared.coding.Coding.{Coding}
use Rattle.character_sets.specs.declared.coding.Coding.TheVariants as codings
use Rattle.character_sets.specs.declared.coding.ByteOrder.{ByteOrder}
use Rattle.character_sets.specs.declared.coding.ByteOrder.TheVariants.{BigEndian, LittleEndian}
use Rattle.character_sets.specs.declared.tables.TheConstants.{ASCII}
use Rattle.character_sets.specs.Coding.{coding_of}
use Rattle.character_sets.specs.SingleByte.{byte_character, entry_of, character_of, lower_half, upper_half}
use Rattle.character_sets.specs.Spellings.{AreUnits, SpellsIn, IsText}
use Rattle.character_sets.specs.Decoding.{IsNotUtf8}
use Rattle.character_sets.specs.Utf8Texts.{IsUtf8Coding}
use Rattle.character_sets.specs.Laws.{OneText, TextsJoin, ByTable, KeepsAscii, IsStdUtf8, IsStdUtf16}
use Rattle.character_sets.proofs.SpelledFirst.{char-byte}
use Rattle.character_sets.proofs.Decoded.{decoded-text}
use Rattle.character_sets.proofs.Utf8Lemmas.{Encodes-text, text-Encodes}

pub either : (coding : Coding) → IsUtf8Coding coding ⊎ IsNotUtf8 coding
either codings.SingleByte = inr tt
either codings.BasicUtf8 = inl tt
either codings.Utf8 = inl tt
either codings.Ucs2 = inr tt
either codings.Utf16 = inr tt
either codings.Utf16le = inr tt
either codings.Utf32 = inr tt
either codings.Unknown = inr tt

pub one_text : OneText
one_text set bytes cs ds is also =
    elim (either (coding_of set)) [
      | inl utf8 ↦ encodes_same cs ds ((Encodes-text set bytes cs utf8 is).encoded ∙ sym (Encodes-text set bytes ds utf8 also).encoded)
      | inr other ↦ let same : Some cs ≡ Some ds = sym (decoded-text set bytes cs other is) ∙ decoded-text set bytes ds other also in cc
    ]

pub texts_join : TextsJoin
texts_join set a b [] ds is also = subst (λ l. IsText set (l ++ b) ds) (sym is) also
texts_join set a b (c ∷ cs) ds (rest, begins, behind) also = (
  rest ++ b,
  record { front = begins.front; spells = begins.spells; split = ap (λ l. l ++ b) begins.split ∙ append_assoc begins.front rest b },
  texts_join set rest b cs ds behind also,
)

-- ---- Single bytes

by_table_to : (set : CharacterSet) (bytes cs : List ℕ) → coding_of set ≡ codings.SingleByte → IsText set bytes cs → map (byte_character set) bytes ≡ map Some cs
by_table_to set bytes [] single is = ap (map (byte_character set)) is
by_table_to set bytes (c ∷ cs) single (rest, begins, behind) =
    let (byte, alone, found) = subst (λ k. SpellsIn k set begins.front c) single begins.spells.coded in
    ap (map (byte_character set)) (begins.split ∙ ap (λ f. f ++ rest) alone)
    ∙ ap (λ o. o ∷ map (byte_character set) rest) found
    ∙ ap (λ l. Some c ∷ l) (by_table_to set rest cs single behind)

pub by_table_from : (set : CharacterSet) (bytes cs : List ℕ) → coding_of set ≡ codings.SingleByte → map (byte_character set) bytes ≡ map Some cs → IsText set bytes cs
by_table_from set [] [] single is = refl
by_table_from set [] (c ∷ cs) single is = absurd cc
by_table_from set (byte ∷ bytes) [] single is = absurd cc
by_table_from set (byte ∷ bytes) (c ∷ cs) single is =
    let found : byte_character set byte ≡ Some c = cc in
    let others : map (byte_character set) bytes ≡ map Some cs = cc in
    let coded : SpellsIn codings.SingleByte set (byte ∷ []) c = (byte, refl, found) in (
      bytes,
      record { front = byte ∷ []; spells = record { scalar = char-byte set byte c found; coded = subst (λ k. SpellsIn k set (byte ∷ []) c) (sym single) coded }; split = refl },
      by_table_from set bytes cs single others,
    )

pub by_table : ByTable
by_table set bytes cs single = (by_table_to set bytes cs single, by_table_from set bytes cs single)

-- ---- ASCII

ascii_half : (set : CharacterSet) → set ≢ Swe7 → lower_half set ≡ ASCII
unfolding lower_half
ascii_half Swe7 other = absurd (other refl)
ascii_half _ other = refl

are_from : ℕ → List ℕ → Bool
are_from first [] = true
are_from first (x ∷ xs) = (x == first) && are_from (first + 1) xs

both : (a b : Bool) → (a && b) ≡ true → (a ≡ true) × (b ≡ true)
both true true is = (refl, refl)
both true false is = absurd cc
both false b is = absurd cc

equal : (a b : ℕ) → (a == b) ≡ true → a ≡ b
equal a b is = grind (arith, nat_tests)

entry_from : (first : ℕ) (xs : List ℕ) (i : ℕ) → are_from first xs ≡ true → i < length xs → get_or xs i 0 ≡ first + i
unfolding are_from
entry_from first [] i are within = absurd (omega (arith, within))
entry_from first (x ∷ xs) zero are within = equal x first (both _ _ are).0 ∙ omega arith
entry_from first (x ∷ xs) (suc i) are within = entry_from (first + 1) xs i (both _ _ are).1 (omega (arith, within)) ∙ omega arith

ascii_entries : are_from 0 ASCII ≡ true
unfolding are_from
ascii_entries = refl

ascii_length : length ASCII ≡ 128
ascii_length = refl

known : (entry byte : ℕ) → entry ≡ byte → byte < 128 → character_of entry ≡ Some byte
known entry byte is low = grind (arith, nat_tests)

pub keeps_ascii : KeepsAscii
unfolding byte_character
keeps_ascii set byte other low =
    known (entry_of set byte) byte
    (ap (λ b. cond b (get_or (lower_half set) byte 0) (get_or (upper_half set) (byte - 128) 0)) (lt-ltb byte 128 low)
    ∙ ap (λ half. get_or half byte 0) (ascii_half set other)
    ∙ entry_from 0 ASCII byte ascii_entries (omega (arith, low, ascii_length)) ∙ omega arith)
    low

-- ---- Unicode

pub is_std_utf8 : IsStdUtf8
unfolding coding_of
is_std_utf8 bytes cs = (
  λ is. let found = Encodes-text Utf8mb4 bytes cs tt is in (found.scalars, found.encoded),
  λ are. text-Encodes Utf8mb4 bytes cs tt (record { scalars = are.0; within = refl; encoded = are.1 }),
)

units_join : (order : ByteOrder) (front rest us vs : List ℕ) → AreUnits order front us → AreUnits order rest vs → AreUnits order (front ++ rest) (us ++ vs)
units_join order front rest [] vs is also = subst (λ l. AreUnits order (l ++ rest) vs) (sym is) also
units_join order [] rest (u ∷ us) vs is also = absurd (omega (arith, is.0))
units_join order (x ∷ []) rest (u ∷ us) vs is also = absurd (omega (arith, is.0))
units_join order (x ∷ y ∷ front) rest (u ∷ us) vs is also = (omega arith, is.1, units_join order front rest us vs is.2 also)

utf16_units : (order : ByteOrder) (set : CharacterSet) (bytes cs : List ℕ) → ((front : List ℕ) (c : ℕ) → SpellsIn (coding_of set) set front c → AreUnits order front (encode_utf16 c))
    → IsText set bytes cs → AreUnits order bytes (flat_map encode_utf16 cs)
utf16_units order set bytes [] each is = is
utf16_units order set bytes (c ∷ cs) each (rest, begins, behind) =
    subst (λ l. AreUnits order l (encode_utf16 c ++ flat_map encode_utf16 cs)) (sym begins.split)
    (units_join order begins.front rest (encode_utf16 c) _ (each begins.front c begins.spells.coded) (utf16_units order set rest cs each behind))

pub is_std_utf16 : IsStdUtf16
unfolding coding_of
is_std_utf16 bytes cs = (
  λ is. utf16_units BigEndian Utf16 bytes cs (λ front c coded. coded) is,
  λ is. utf16_units LittleEndian Utf16le bytes cs (λ front c coded. coded) is,
)
