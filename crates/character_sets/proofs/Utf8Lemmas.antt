-- The texts of the sets of UTF-8 are UTF-8.
use Rattle.std.proofs.Common.{◌≡◌, ℕ, ◌<◌, Bool, true, false, ◌&&◌, List, [], ◌∷◌, ◌++◌, refl, ap, sym, ◌∙◌, subst, arith}
use Rattle.std.specs.Prelude.{encode_utf8, encode_utf8_all, chars, IsUtf8}
use Rattle.std.specs.List.{list_all}
use Rattle.std.specs.Char.{IsScalar}
use Rattle.std.specs.Str.{all_scalars}
use Rattle.std.proofs.lemmas.Bool.{lt-ltb}
use Rattle.std.proofs.lemmas.Bool.Decides.{nat_tests}
use Rattle.std.proofs.lemmas.Str.{encodes-chars, scalars-chars, chars-encodes}
use Rattle.character_sets.specs.declared.character_set.CharacterSet.{CharacterSet}
use Rattle.character_sets.specs.declared.coding.Coding.{Coding}
use Rattle.character_sets.specs.declared.coding.Coding.TheVariants.{SingleByte, BasicUtf8, Utf8, Ucs2, Utf16, Utf16le, Utf32, Unknown}
use Rattle.character_sets.specs.Coding.{coding_of}
use Rattle.character_sets.specs.Spellings.{SpellsIn, IsText}
use Rattle.character_sets.specs.Utf8Texts.{IsUtf8Coding, is_basic, are_in_utf8}

-- The characters, their bytes in UTF-8, and that the set has them.
pub record Encodes (coding : Coding) (bytes cs : List ℕ) : Type 0 where
  pub scalars : all_scalars cs ≡ true
  pub within : are_in_utf8 coding cs ≡ true
  pub encoded : encode_utf8_all cs ≡ bytes

both : (a b : Bool) → (a && b) ≡ true → (a ≡ true) × (b ≡ true)
both true true is = (refl, refl)
both true false is = absurd cc
both false b is = absurd cc

one : (coding : Coding) (set : CharacterSet) (front rest : List ℕ) (c : ℕ) (cs : List ℕ) → IsUtf8Coding coding → IsScalar c → SpellsIn coding set front c → Encodes coding rest cs
    → Encodes coding (front ++ rest) (c ∷ cs)
one BasicUtf8 set front rest c cs utf8 scalar (basic, is) behind = record {
  scalars = ap (λ b. b && all_scalars cs) scalar ∙ behind.scalars;
  within = ap (λ b. b && list_all is_basic cs) (lt-ltb c 0x1_0000 basic) ∙ behind.within;
  encoded = ap (λ f. f ++ encode_utf8_all cs) (sym is) ∙ ap (λ r. front ++ r) behind.encoded;
}
one Utf8 set front rest c cs utf8 scalar is behind = record {
  scalars = ap (λ b. b && all_scalars cs) scalar ∙ behind.scalars;
  within = refl;
  encoded = ap (λ f. f ++ encode_utf8_all cs) (sym is) ∙ ap (λ r. front ++ r) behind.encoded;
}
one SingleByte set front rest c cs utf8 scalar is behind = absurd utf8
one Ucs2 set front rest c cs utf8 scalar is behind = absurd utf8
one Utf16 set front rest c cs utf8 scalar is behind = absurd utf8
one Utf16le set front rest c cs utf8 scalar is behind = absurd utf8
one Utf32 set front rest c cs utf8 scalar is behind = absurd utf8
one Unknown set front rest c cs utf8 scalar is behind = absurd utf8

nothing : (coding : Coding) → IsUtf8Coding coding → Encodes coding [] []
nothing BasicUtf8 utf8 = record { scalars = refl; within = refl; encoded = refl }
nothing Utf8 utf8 = record { scalars = refl; within = refl; encoded = refl }
nothing SingleByte utf8 = absurd utf8
nothing Ucs2 utf8 = absurd utf8
nothing Utf16 utf8 = absurd utf8
nothing Utf16le utf8 = absurd utf8
nothing Utf32 utf8 = absurd utf8
nothing Unknown utf8 = absurd utf8

-- A text is the UTF-8 of its characters.
pub Encodes-text : (set : CharacterSet) (bytes cs : List ℕ) → IsUtf8Coding (coding_of set) → IsText set bytes cs → Encodes (coding_of set) bytes cs
Encodes-text set bytes [] utf8 is = subst (λ bs. Encodes (coding_of set) bs []) (sym is) (nothing (coding_of set) utf8)
Encodes-text set bytes (c ∷ cs) utf8 (rest, begins, behind) =
    subst (λ bs. Encodes (coding_of set) bs (c ∷ cs)) (sym begins.split)
    (one (coding_of set) set begins.front rest c cs utf8 begins.spells.scalar begins.spells.coded (Encodes-text set rest cs utf8 behind))

spelled : (coding : Coding) (set : CharacterSet) (c : ℕ) (cs : List ℕ) → IsUtf8Coding coding → are_in_utf8 coding (c ∷ cs) ≡ true → SpellsIn coding set (encode_utf8 c) c × (are_in_utf8 coding cs ≡ true)
spelled BasicUtf8 set c cs utf8 are = let parts = both (is_basic c) (list_all is_basic cs) are in let basic : c < 0x1_0000 = grind (arith, nat_tests, parts.0) in ((basic, refl), parts.1)
spelled Utf8 set c cs utf8 are = (refl, refl)
spelled SingleByte set c cs utf8 are = absurd utf8
spelled Ucs2 set c cs utf8 are = absurd utf8
spelled Utf16 set c cs utf8 are = absurd utf8
spelled Utf16le set c cs utf8 are = absurd utf8
spelled Utf32 set c cs utf8 are = absurd utf8
spelled Unknown set c cs utf8 are = absurd utf8

text_of_encoded : (set : CharacterSet) (cs : List ℕ) → IsUtf8Coding (coding_of set) → all_scalars cs ≡ true → are_in_utf8 (coding_of set) cs ≡ true → IsText set (encode_utf8_all cs) cs
text_of_encoded set [] utf8 scalars within = refl
text_of_encoded set (c ∷ cs) utf8 scalars within =
    let (scalar, others) = both _ (all_scalars cs) scalars in
    let (coded, left) = spelled (coding_of set) set c cs utf8 within in
    (encode_utf8_all cs, record { front = encode_utf8 c; spells = record { scalar = scalar; coded = coded }; split = refl }, text_of_encoded set cs utf8 others left)

-- The UTF-8 of characters that the set has is a text.
pub text-Encodes : (set : CharacterSet) (bytes cs : List ℕ) → IsUtf8Coding (coding_of set) → Encodes (coding_of set) bytes cs → IsText set bytes cs
text-Encodes set bytes cs utf8 is = subst (λ bs. IsText set bs cs) is.encoded (text_of_encoded set cs utf8 is.scalars is.within)

pub text-utf8 : (set : CharacterSet) (bytes : List ℕ) → IsUtf8Coding (coding_of set) → IsUtf8 bytes → are_in_utf8 (coding_of set) (chars bytes) ≡ true → IsText set bytes (chars bytes)
text-utf8 set bytes utf8 is within = text-Encodes set bytes (chars bytes) utf8 (record { scalars = scalars-chars bytes is; within = within; encoded = encodes-chars bytes is })

pub utf8-text : (set : CharacterSet) (bytes cs : List ℕ) → IsUtf8Coding (coding_of set) → IsText set bytes cs → IsUtf8 bytes × (are_in_utf8 (coding_of set) (chars bytes) ≡ true)
utf8-text set bytes cs utf8 is =
    let found = Encodes-text set bytes cs utf8 is in
    let same : chars bytes ≡ cs = ap chars (sym found.encoded) ∙ chars-encodes cs found.scalars in
    ((cs, (found.scalars, found.encoded)), ap (are_in_utf8 (coding_of set)) same ∙ found.within)
