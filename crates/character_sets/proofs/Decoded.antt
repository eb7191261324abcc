-- What is decoded is the text, and the only one.
use Rattle.std.proofs.Common.{◌≡◌, ℕ, zero, suc, ◌<◌, ◌≤◌, Bool, true, false, nat_lt, cond, Option, Some, None, List, [], ◌∷◌, length, refl, ap, sym, ◌∙◌, subst, arith}
use Rattle.std.proofs.Math.ListN.{length-append}
use Rattle.std.specs.Option.{option_and_then}
use Rattle.std.specs.Prelude.{is_some, encode_utf8, unwrap_or}
use Rattle.std.specs.Char.Escape.{encode_utf16}
use Rattle.std.proofs.lemmas.Str.{length-encode, len_utf8_bounds}
use Rattle.character_sets.specs.declared.character_set.CharacterSet.{CharacterSet}
use Rattle.character_sets.specs.declared.coding.Coding.{Coding}
use Rattle.character_sets.specs.declared.coding.Coding.TheVariants.{SingleByte, BasicUtf8, Utf8, Ucs2, Utf16, Utf16le, Utf32, Unknown}
use Rattle.character_sets.specs.declared.coding.ByteOrder.{ByteOrder}
use Rattle.character_sets.specs.declared.coding.ByteOrder.TheVariants.{BigEndian, LittleEndian}
use Rattle.character_sets.specs.Coding.{coding_of}
use Rattle.character_sets.specs.Spellings.{AreUnits, SpellsIn, Begins, IsText}
use Rattle.character_sets.specs.Decoding.{first_character, decoded, decoded_within, with_front, IsNotUtf8}
use Rattle.character_sets.proofs.FirstSpelled.{first_character-begins}
use Rattle.character_sets.proofs.SpelledFirst.{begins-first_character, then_some, mapped_some}

-- ---- A character is a byte at least.

utf16_front_by : (order : ByteOrder) (front : List ℕ) (b : Bool) (one : ℕ) (high low : ℕ) → AreUnits order front (cond b (one ∷ []) (high ∷ low ∷ [])) → 0 < length front
utf16_front_by order front true one high low are = omega (arith, are.0)
utf16_front_by order front false one high low are = omega (arith, are.0)

utf16_front : (order : ByteOrder) (front : List ℕ) (c : ℕ) → AreUnits order front (encode_utf16 c) → 0 < length front
utf16_front order front c are = utf16_front_by order front (nat_lt c 0x1_0000) c _ _ are

utf8_front : (front : List ℕ) (c : ℕ) → front ≡ encode_utf8 c → 0 < length front
utf8_front front c is = omega (arith, ap length is, length-encode c, len_utf8_bounds c)

spelled_front : (coding : Coding) (set : CharacterSet) (front : List ℕ) (c : ℕ) → SpellsIn coding set front c → 0 < length front
spelled_front SingleByte set front c (byte, split, is) = rw split (omega arith)
spelled_front BasicUtf8 set front c (basic, is) = utf8_front front c is
spelled_front Utf8 set front c is = utf8_front front c is
spelled_front Ucs2 set front c (basic, are) = omega (arith, are.0)
spelled_front Utf16 set front c are = utf16_front BigEndian front c are
spelled_front Utf16le set front c are = utf16_front LittleEndian front c are
spelled_front Utf32 set front c (four, is) = omega (arith, four)
spelled_front Unknown set front c is = absurd is

pub begins_shorter : (set : CharacterSet) (bytes : List ℕ) (c : ℕ) (rest : List ℕ) → Begins set bytes c rest → length rest < length bytes
begins_shorter set bytes c rest is =
    let some = spelled_front (coding_of set) set is.front c is.spells.coded in
    omega (arith, ap length is.split ∙ length-append is.front rest, some)

pub first_shorter : (set : CharacterSet) (bytes : List ℕ) (c : ℕ) (rest : List ℕ) → first_character set bytes ≡ Some (c, rest) → length rest < length bytes
first_shorter set bytes c rest is = begins_shorter set bytes c rest (begins-first_character set bytes c rest is)

-- ---- What is decoded is the text.

text-decoded_within : (most : ℕ) (set : CharacterSet) (bytes cs : List ℕ) → decoded_within most set bytes ≡ Some cs → IsText set bytes cs
unfolding decoded_within
text-decoded_within zero set [] cs is = let none : [] ≡ cs = cc in subst (IsText set []) none refl
text-decoded_within (suc most) set [] cs is = let none : [] ≡ cs = cc in subst (IsText set []) none refl
text-decoded_within zero set (b ∷ bs) cs is = absurd cc
text-decoded_within (suc most) set (b ∷ bs) cs is =
    let (x, first, then) = then_some (λ (x : ℕ × List ℕ). with_front x.0 (decoded_within most set x.1)) (first_character set (b ∷ bs)) cs is in
    let (others, behind, same) = mapped_some (λ (ds : List ℕ). x.0 ∷ ds) (decoded_within most set x.1) cs then in
    subst (IsText set (b ∷ bs)) same
    (x.1, begins-first_character set (b ∷ bs) x.0 x.1 first, text-decoded_within most set x.1 others behind)

pub text-decoded : (set : CharacterSet) (bytes cs : List ℕ) → decoded set bytes ≡ Some cs → IsText set bytes cs
text-decoded set bytes cs is = text-decoded_within (length bytes) set bytes cs is

nothing_within : (most : ℕ) (set : CharacterSet) → decoded_within most set [] ≡ Some []
unfolding decoded_within
nothing_within zero set = refl
nothing_within (suc most) set = refl

-- Where the first character is known, the others are decoded.
one_within : (most : ℕ) (set : CharacterSet) (bytes : List ℕ) (c : ℕ) (rest : List ℕ) → first_character set bytes ≡ Some (c, rest) → 0 < length bytes
    → decoded_within (suc most) set bytes ≡ with_front c (decoded_within most set rest)
unfolding decoded_within
one_within most set [] c rest is some = absurd (omega (arith, some))
one_within most set (b ∷ bs) c rest is some = ap (option_and_then (λ (x : ℕ × List ℕ). with_front x.0 (decoded_within most set x.1))) is

decoded_within-text : (most : ℕ) (set : CharacterSet) (bytes cs : List ℕ) → IsNotUtf8 (coding_of set) → length bytes ≤ most → IsText set bytes cs → decoded_within most set bytes ≡ Some cs
decoded_within-text most set bytes [] other fits is = ap (decoded_within most set) is ∙ nothing_within most set
decoded_within-text zero set bytes (c ∷ cs) other fits (rest, begins, behind) = absurd (omega (arith, fits, begins_shorter set bytes c rest begins))
decoded_within-text (suc most) set bytes (c ∷ cs) other fits (rest, begins, behind) =
    let shorter = begins_shorter set bytes c rest begins in
    one_within most set bytes c rest (first_character-begins set bytes c rest other begins) (omega (arith, shorter))
    ∙ ap (with_front c) (decoded_within-text most set rest cs other (omega (arith, fits, shorter)) behind)

pub decoded-text : (set : CharacterSet) (bytes cs : List ℕ) → IsNotUtf8 (coding_of set) → IsText set bytes cs → decoded set bytes ≡ Some cs
decoded-text set bytes cs other is = decoded_within-text (length bytes) set bytes cs other (omega arith) is

-- ---- Decoding by steps

-- More room for characters than there are bytes changes nothing.
within_room : (most more : ℕ) (set : CharacterSet) (bytes : List ℕ) → length bytes ≤ most → length bytes ≤ more → decoded_within most set bytes ≡ decoded_within more set bytes
unfolding decoded_within
within_room zero zero set bytes fits also = refl
within_room zero (suc more) set [] fits also = refl
within_room zero (suc more) set (b ∷ bs) fits also = absurd (omega (arith, fits))
within_room (suc most) zero set [] fits also = refl
within_room (suc most) zero set (b ∷ bs) fits also = absurd (omega (arith, also))
within_room (suc most) (suc more) set [] fits also = refl
within_room (suc most) (suc more) set (b ∷ bs) fits also =
    elim (first_character set (b ∷ bs)) as (λ first. (first_character set (b ∷ bs) ≡ first) → option_and_then (λ (x : ℕ × List ℕ). with_front x.0 (decoded_within most set x.1)) first
    ≡ option_and_then (λ (x : ℕ × List ℕ). with_front x.0 (decoded_within more set x.1)) first) [
      | None ↦ λ is. refl
      | Some x ↦ λ is. let shorter = first_shorter set (b ∷ bs) x.0 x.1 is in
          ap (with_front x.0) (within_room most more set x.1 (omega (arith, fits, shorter)) (omega (arith, also, shorter)))
    ]
    refl

-- The text is the first character and the text behind it.
pub decoded-first : (set : CharacterSet) (bytes : List ℕ) (c : ℕ) (rest : List ℕ) → first_character set bytes ≡ Some (c, rest) → decoded set bytes ≡ with_front c (decoded set rest)
unfolding decoded_within
decoded-first set [] c rest is = absurd (omega (arith, first_shorter set [] c rest is))
decoded-first set (b ∷ bs) c rest is =
    let shorter = first_shorter set (b ∷ bs) c rest is in
    one_within (length bs) set (b ∷ bs) c rest is (omega arith)
    ∙ ap (with_front c) (within_room (length bs) (length rest) set rest (omega (arith, shorter)) (omega arith))

-- Without a first character there is a text only of no bytes.
pub decoded-no_first : (set : CharacterSet) (bytes : List ℕ) → first_character set bytes ≡ None → 0 < length bytes → decoded set bytes ≡ None
unfolding decoded_within
decoded-no_first set [] is some = absurd (omega (arith, some))
decoded-no_first set (b ∷ bs) is some = ap (option_and_then (λ (x : ℕ × List ℕ). with_front x.0 (decoded_within (length bs) set x.1))) is

pub decoded-nothing : (set : CharacterSet) (bytes : List ℕ) → length bytes ≡ 0 → decoded set bytes ≡ Some []
unfolding decoded_within
decoded-nothing set [] none = refl
decoded-nothing set (b ∷ bs) none = absurd (omega (arith, none))

-- ---- What is left of a text

pub left_is_text : (set : CharacterSet) (bytes : List ℕ) (c : ℕ) (rest : List ℕ) → first_character set bytes ≡ Some (c, rest) → is_some (decoded set rest) ≡ is_some (decoded set bytes)
left_is_text set bytes c rest is = by_text (decoded set rest) ∙ sym (ap is_some (decoded-first set bytes c rest is))
  where
    by_text : (text : Option (List ℕ)) → is_some text ≡ is_some (with_front c text)
    by_text None = refl
    by_text (Some cs) = refl

-- The first character of a text comes before what is left.
pub text-first : (set : CharacterSet) (bytes : List ℕ) (c : ℕ) (rest : List ℕ) → is_some (decoded set bytes) ≡ true → first_character set bytes ≡ Some (c, rest)
    → unwrap_or (decoded set bytes) [] ≡ c ∷ unwrap_or (decoded set rest) []
text-first set bytes c rest text is = ap (λ o. unwrap_or o []) step ∙ by_text (decoded set rest) (ap is_some (sym step) ∙ text)
  where
    step : decoded set bytes ≡ with_front c (decoded set rest)
    step = decoded-first set bytes c rest is

    by_text : (behind : Option (List ℕ)) → is_some (with_front c behind) ≡ true → unwrap_or (with_front c behind) [] ≡ c ∷ unwrap_or behind []
    by_text None some = absurd cc
    by_text (Some cs) some = refl

-- A text without a first character is empty.
pub text-no_first : (set : CharacterSet) (bytes : List ℕ) → is_some (decoded set bytes) ≡ true → first_character set bytes ≡ None → unwrap_or (decoded set bytes) [] ≡ []
text-no_first set [] text is = ap (λ o. unwrap_or o []) (decoded-nothing set [] refl)
text-no_first set (b ∷ bs) text is = let none = decoded-no_first set (b ∷ bs) is (omega arith) in absurd cc

-- What is known to be a text is that of its characters.
pub text-left : (set : CharacterSet) (bytes : List ℕ) → is_some (decoded set bytes) ≡ true → IsText set bytes (unwrap_or (decoded set bytes) [])
text-left set bytes text = text-decoded set bytes _ (by_text (decoded set bytes) text)
  where
    by_text : (o : Option (List ℕ)) → is_some o ≡ true → o ≡ Some (unwrap_or o [])
    by_text None some = absurd cc
    by_text (Some cs) some = refl
