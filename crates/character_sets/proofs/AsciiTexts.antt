-- Texts in ASCII are UTF-8.
use Rattle.std.proofs.Common.{◌≡◌, ◌≢◌, ℕ, suc, true, false, Some, List, [], ◌∷◌, map, refl, ap, sym, ◌∙◌, subst}
use Rattle.std.specs.Prelude.{unwrap_or, encode_utf8_all, chars, IsAscii, IsUtf8}
use Rattle.std.proofs.lemmas.Str.{encodes-IsAscii, encodes-chars}
use Rattle.character_sets.specs.declared.character_set.CharacterSet.{CharacterSet}
use Rattle.character_sets.specs.declared.character_set.CharacterSet.TheVariants.{Swe7}
use Rattle.character_sets.specs.declared.coding.Coding.{Coding}
use Rattle.character_sets.specs.declared.coding.Coding.TheVariants.{SingleByte, BasicUtf8, Utf8, Ucs2, Utf16, Utf16le, Utf32, Unknown}
use Rattle.character_sets.specs.Coding.{coding_of, is_single_byte, has_ascii_bytes}
use Rattle.character_sets.specs.SingleByte.{byte_character}
use Rattle.character_sets.specs.Spellings.{IsText}
use Rattle.character_sets.specs.Decoding.{decoded, IsNotUtf8}
use Rattle.character_sets.proofs.Decoded.{decoded-text}
use Rattle.character_sets.proofs.LawsOfTexts.{keeps_ascii, by_table_from}

single : (coding : Coding) → is_single_byte coding ≡ true → coding ≡ SingleByte
single SingleByte is = refl
single BasicUtf8 is = absurd cc
single Utf8 is = absurd cc
single Ucs2 is = absurd cc
single Utf16 is = absurd cc
single Utf16le is = absurd cc
single Utf32 is = absurd cc
single Unknown is = absurd cc

single_bytes : (set : CharacterSet) → has_ascii_bytes set ≡ true → is_single_byte (coding_of set) ≡ true
unfolding has_ascii_bytes
single_bytes Swe7 is = absurd cc
single_bytes _ is = is

not_swe7 : (set : CharacterSet) → has_ascii_bytes set ≡ true → set ≢ Swe7
unfolding has_ascii_bytes
not_swe7 set is = λ same. let no : has_ascii_bytes set ≡ false = ap has_ascii_bytes same in cc

ascii_bytes : (set : CharacterSet) (bytes : List ℕ) → set ≢ Swe7 → IsAscii bytes → map (byte_character set) bytes ≡ map Some bytes
ascii_bytes set [] other ascii = refl
ascii_bytes set (b ∷ bs) other ascii =
    ap (λ o. o ∷ map (byte_character set) bs) (keeps_ascii set b other (ascii 0))
    ∙ ap (λ l. Some b ∷ l) (ascii_bytes set bs other (λ i. ascii (suc i)))

single_coding : (set : CharacterSet) → has_ascii_bytes set ≡ true → coding_of set ≡ SingleByte
single_coding set has = single (coding_of set) (single_bytes set has)

pub single_text : (set : CharacterSet) (bytes : List ℕ) → has_ascii_bytes set ≡ true → IsAscii bytes → IsText set bytes bytes
single_text set bytes has ascii = by_table_from set bytes bytes (single_coding set has) (ascii_bytes set bytes (not_swe7 set has) ascii)

pub ascii_text : (set : CharacterSet) (bytes : List ℕ) → has_ascii_bytes set ≡ true → IsAscii bytes → bytes ≡ encode_utf8_all (unwrap_or (decoded set bytes) [])
ascii_text set bytes has ascii =
    let found = decoded-text set bytes bytes (subst IsNotUtf8 (sym (single_coding set has)) tt) (single_text set bytes has ascii) in
    sym (ap (λ o. encode_utf8_all (unwrap_or o [])) found ∙ encodes-IsAscii bytes ascii)

-- A text in UTF-8 is that of its characters.
pub encoded_chars : (bytes : List ℕ) → IsUtf8 bytes → bytes ≡ encode_utf8_all (chars bytes)
encoded_chars bytes is = sym (encodes-chars bytes is)
