-- Texts in ASCII are their own UTF-8.
use Rattle.std.proofs.Common.{◌≡◌, ℕ, suc, ◌<◌, Bool, true, false, Some, List, [], ◌∷◌, refl, ap, ◌∙◌, sym, subst, arith}
use Rattle.std.proofs.lemmas.Bool.{and_from}
use Rattle.std.proofs.lemmas.Bool.Decides.{nat_tests}
use Rattle.std.proofs.lemmas.Str.{encodes-IsAscii}
use Rattle.std.specs.Option.{option_map}
use Rattle.std.specs.Prelude.{encode_utf8_all, IsAscii}
use Rattle.std.specs.Char.{IsScalar}
use Rattle.std.specs.Bool.{OnTrue}
use Rattle.std.specs.List.{list_all}
use Rattle.std.specs.Str.{all_scalars}
use Rattle.character_sets.specs.declared.character_set.CharacterSet.{CharacterSet}
use Rattle.character_sets.specs.declared.coding.Coding.{Coding}
use Rattle.character_sets.specs.declared.coding.Coding.TheVariants.{SingleByte, BasicUtf8, Utf8, Ucs2, Utf16, Utf16le, Utf32, Unknown}
use Rattle.character_sets.specs.Coding.{coding_of, has_ascii_bytes}
use Rattle.character_sets.specs.Spellings.{IsText}
use Rattle.character_sets.specs.Utf8Texts.{IsUtf8Coding, is_basic, are_in_utf8}
use Rattle.character_sets.specs.Characters.{utf8_of}
use Rattle.character_sets.proofs.AsciiTexts.{single_text}
use Rattle.character_sets.proofs.Reading.{characters-text}
use Rattle.character_sets.proofs.Utf8Lemmas.{text-Encodes}

scalar : (b : ℕ) → b < 128 → IsScalar b
scalar b low = grind (arith, nat_tests)

basic : (b : ℕ) → b < 128 → is_basic b ≡ true
basic b low = grind (arith, nat_tests)

are_scalars : (bytes : List ℕ) → IsAscii bytes → all_scalars bytes ≡ true
are_scalars [] ascii = refl
are_scalars (b ∷ bs) ascii = and_from _ _ (scalar b (ascii 0)) (are_scalars bs (λ i. ascii (suc i)))

are_basic : (bytes : List ℕ) → IsAscii bytes → list_all is_basic bytes ≡ true
are_basic [] ascii = refl
are_basic (b ∷ bs) ascii = and_from _ _ (basic b (ascii 0)) (are_basic bs (λ i. ascii (suc i)))

are_within : (coding : Coding) (bytes : List ℕ) → IsUtf8Coding coding → IsAscii bytes → are_in_utf8 coding bytes ≡ true
are_within BasicUtf8 bytes utf8 ascii = are_basic bytes ascii
are_within Utf8 bytes utf8 ascii = refl
are_within SingleByte bytes utf8 ascii = absurd utf8
are_within Ucs2 bytes utf8 ascii = absurd utf8
are_within Utf16 bytes utf8 ascii = absurd utf8
are_within Utf16le bytes utf8 ascii = absurd utf8
are_within Utf32 bytes utf8 ascii = absurd utf8
are_within Unknown bytes utf8 ascii = absurd utf8

kept : (set : CharacterSet) (bytes : List ℕ) → IsAscii bytes → IsText set bytes bytes → utf8_of set bytes ≡ Some bytes
kept set bytes ascii text = ap (option_map encode_utf8_all) (characters-text set bytes bytes text) ∙ ap (λ l. Some l) (encodes-IsAscii bytes ascii)

kept_in_single : (set : CharacterSet) → has_ascii_bytes set ≡ true → (bytes : List ℕ) → IsAscii bytes → utf8_of set bytes ≡ Some bytes
kept_in_single set has bytes ascii = kept set bytes ascii (single_text set bytes has ascii)

kept_in_utf8 : (set : CharacterSet) → IsUtf8Coding (coding_of set) → (bytes : List ℕ) → IsAscii bytes → utf8_of set bytes ≡ Some bytes
kept_in_utf8 set utf8 bytes ascii =
    kept set bytes ascii (text-Encodes set bytes bytes utf8 (record { scalars = are_scalars bytes ascii; within = are_within (coding_of set) bytes utf8 ascii; encoded = encodes-IsAscii bytes ascii }))

-- ---- The same where it is asked.

pub on_single : (b : Bool) (set : CharacterSet) → b ≡ has_ascii_bytes set → OnTrue b ((bytes : List ℕ) → IsAscii bytes → utf8_of set bytes ≡ Some bytes)
on_single true set is = kept_in_single set (sym is)
on_single false set is = tt

pub on_utf8 : (b : Bool) (set : CharacterSet) (coding : Coding) → coding ≡ coding_of set → OnTrue b (IsUtf8Coding coding) → OnTrue b ((bytes : List ℕ) → IsAscii bytes → utf8_of set bytes ≡ Some bytes)
on_utf8 true set coding is utf8 = kept_in_utf8 set (subst IsUtf8Coding is utf8)
on_utf8 false set coding is utf8 = tt
