-- The characters of bytes, as a function, are those of their text.
use Rattle.std.proofs.Common.{◌≡◌, ℕ, Bool, true, false, ◌&&◌, cond, Option, Some, None, List, inl, inr, refl, ap, sym, ◌∙◌, subst}
use Rattle.std.proofs.lemmas.Str.{is_utf8-from_IsUtf8, IsUtf8-from_is_utf8, encodes-IsAscii, IsUtf8-from_ascii}
use Rattle.std.proofs.lemmas.Bool.{and_parts, and_from}
use Rattle.std.specs.Prelude.{IfSome, MatchOption, chars, encode_utf8_all, IsAscii, IsUtf8}
use Rattle.std.specs.Str.{is_utf8}
use Rattle.character_sets.specs.declared.character_set.CharacterSet.{CharacterSet}
use Rattle.character_sets.specs.declared.coding.Coding.{Coding}
use Rattle.character_sets.specs.declared.coding.Coding.TheVariants.{SingleByte, BasicUtf8, Utf8, Ucs2, Utf16, Utf16le, Utf32, Unknown}
use Rattle.character_sets.specs.Coding.{coding_of}
use Rattle.character_sets.specs.Spellings.{IsText}
use Rattle.character_sets.specs.Decoding.{decoded, Gives, IsNotUtf8}
use Rattle.character_sets.specs.Utf8Texts.{IsUtf8Coding, are_in_utf8}
use Rattle.character_sets.specs.Characters.{utf8_characters, characters_in, characters_of}
use Rattle.character_sets.specs.Laws.{TextsAreRead}
use Rattle.character_sets.proofs.Decoded.{text-decoded, decoded-text}
use Rattle.character_sets.proofs.LawsOfTexts.{either, one_text}
use Rattle.character_sets.proofs.Utf8Lemmas.{text-utf8, utf8-text}

in_utf8 : (coding : Coding) (set : CharacterSet) (bytes : List ℕ) → IsUtf8Coding coding → characters_in coding set bytes ≡ utf8_characters coding bytes
in_utf8 BasicUtf8 set bytes utf8 = refl
in_utf8 Utf8 set bytes utf8 = refl
in_utf8 SingleByte set bytes utf8 = absurd utf8
in_utf8 Ucs2 set bytes utf8 = absurd utf8
in_utf8 Utf16 set bytes utf8 = absurd utf8
in_utf8 Utf16le set bytes utf8 = absurd utf8
in_utf8 Utf32 set bytes utf8 = absurd utf8
in_utf8 Unknown set bytes utf8 = absurd utf8

in_other : (coding : Coding) (set : CharacterSet) (bytes : List ℕ) → IsNotUtf8 coding → characters_in coding set bytes ≡ decoded set bytes
in_other BasicUtf8 set bytes other = absurd other
in_other Utf8 set bytes other = absurd other
in_other SingleByte set bytes other = refl
in_other Ucs2 set bytes other = refl
in_other Utf16 set bytes other = refl
in_other Utf16le set bytes other = refl
in_other Utf32 set bytes other = refl
in_other Unknown set bytes other = refl

by_test : (b : Bool) (x cs : List ℕ) → cond b (Some x) None ≡ Some cs → (b ≡ true) × (x ≡ cs)
by_test true x cs is = (refl, cc)
by_test false x cs is = absurd cc

-- ---- The text is what is read.

utf8_read : (set : CharacterSet) (bytes cs : List ℕ) → IsUtf8Coding (coding_of set) → IsText set bytes cs → utf8_characters (coding_of set) bytes ≡ Some cs
utf8_read set bytes cs utf8 is =
    let found = utf8-text set bytes cs utf8 is in
    let same : chars bytes ≡ cs = one_text set bytes (chars bytes) cs (text-utf8 set bytes utf8 found.0 found.1) is in
    ap (λ b. cond b (Some (chars bytes)) None) (and_from _ _ (is_utf8-from_IsUtf8 bytes found.0) found.1) ∙ ap (λ l. Some l) same

pub characters-text : (set : CharacterSet) (bytes cs : List ℕ) → IsText set bytes cs → characters_of set bytes ≡ Some cs
unfolding characters_of
characters-text set bytes cs is =
    elim (either (coding_of set)) [
      | inl utf8 ↦ in_utf8 (coding_of set) set bytes utf8 ∙ utf8_read set bytes cs utf8 is
      | inr other ↦ in_other (coding_of set) set bytes other ∙ decoded-text set bytes cs other is
    ]

-- ---- What is read is the text.

read_utf8 : (set : CharacterSet) (bytes cs : List ℕ) → IsUtf8Coding (coding_of set) → utf8_characters (coding_of set) bytes ≡ Some cs → IsText set bytes cs
read_utf8 set bytes cs utf8 is =
    let (passed, same) = by_test (is_utf8 bytes && are_in_utf8 (coding_of set) (chars bytes)) (chars bytes) cs is in
    let parts = and_parts _ _ passed in
    subst (IsText set bytes) same (text-utf8 set bytes utf8 (IsUtf8-from_is_utf8 bytes parts.0) parts.1)

pub text-characters : (set : CharacterSet) (bytes cs : List ℕ) → characters_of set bytes ≡ Some cs → IsText set bytes cs
unfolding characters_of
text-characters set bytes cs is =
    elim (either (coding_of set)) [
      | inl utf8 ↦ read_utf8 set bytes cs utf8 (sym (in_utf8 (coding_of set) set bytes utf8) ∙ is)
      | inr other ↦ text-decoded set bytes cs (sym (in_other (coding_of set) set bytes other) ∙ is)
    ]

pub texts_are_read : TextsAreRead
texts_are_read set bytes cs = (text-characters set bytes cs, characters-text set bytes cs)

none_read : (set : CharacterSet) (bytes : List ℕ) (read : Option (List ℕ)) → characters_of set bytes ≡ read → ((cs : List ℕ) → ¬ (IsText set bytes cs)) → read ≡ None
none_read set bytes None is none = refl
none_read set bytes (Some cs) is none = absurd (none cs (text-characters set bytes cs is))

-- Where the bytes are no text, nothing is read.
pub no_characters : (set : CharacterSet) (bytes : List ℕ) → ((cs : List ℕ) → ¬ (IsText set bytes cs)) → characters_of set bytes ≡ None
no_characters set bytes none = none_read set bytes (characters_of set bytes) refl none
