-- The front of a text, byte by byte.
use Rattle.std.proofs.Common.{◌≡◌, ℕ, Bool, true, false, List, [], ◌∷◌, length, refl, sym, ◌∙◌, ap, subst, arith}
use Rattle.std.specs.Prelude.{◌&&◌, ◌==◌}
use Rattle.std.proofs.Math.Dec.{eqb-suc-zero}
use Rattle.std.proofs.lemmas.Bool.{eq-eqb, ne_eqb}
use Rattle.binlog_transactions.specs.Statements.{upper, is_text, begins_with}

-- ---- a text

pub one_more_byte : (left rest wanted others : List ℕ) (first byte : ℕ) (all : Bool) → left ≡ first ∷ rest → wanted ≡ byte ∷ others → first ≡ byte
    → is_text left wanted ≡ all → is_text rest others ≡ all
one_more_byte left rest wanted others first byte all p q same h =
    let here : (first == byte) && is_text rest others ≡ all = sym (ap (λ (s : List ℕ). is_text s wanted) p ∙ ap (is_text (first ∷ rest)) q) ∙ h in
    subst (λ (b : Bool). b && is_text rest others ≡ all) (eq-eqb first byte same) here

pub other_byte : (left rest wanted others : List ℕ) (first byte : ℕ) (all : Bool) → left ≡ first ∷ rest → wanted ≡ byte ∷ others → ¬ (first ≡ byte)
    → is_text left wanted ≡ all → false ≡ all
other_byte left rest wanted others first byte all p q differs h =
    let here : (first == byte) && is_text rest others ≡ all = sym (ap (λ (s : List ℕ). is_text s wanted) p ∙ ap (is_text (first ∷ rest)) q) ∙ h in
    subst (λ (b : Bool). b && is_text rest others ≡ all) (ne_eqb first byte differs) here

pub text_too_short : (left wanted others : List ℕ) (byte : ℕ) (all : Bool) → left ≡ [] → wanted ≡ byte ∷ others → is_text left wanted ≡ all → false ≡ all
text_too_short left wanted others byte all p q h = sym (ap (λ (s : List ℕ). is_text s wanted) p ∙ ap (is_text []) q) ∙ h

no_more : (left : List ℕ) → is_text left [] ≡ (length left == 0)
no_more [] = refl
no_more (byte ∷ bytes) = sym (eqb-suc-zero (length bytes))

pub all_bytes : (left wanted : List ℕ) (none all : Bool) → none ≡ (length left == 0) → length wanted ≡ 0 → is_text left wanted ≡ all → none ≡ all
all_bytes left [] none all e q h = e ∙ sym (no_more left) ∙ h
all_bytes left (byte ∷ bytes) none all e q h = absurd (omega (arith, q))

-- ---- a prefix

pub one_more_letter : (left rest wanted others : List ℕ) (first byte : ℕ) (all : Bool) → left ≡ first ∷ rest → wanted ≡ byte ∷ others → upper first ≡ byte
    → begins_with left wanted ≡ all → begins_with rest others ≡ all
one_more_letter left rest wanted others first byte all p q same h =
    let here : (upper first == byte) && begins_with rest others ≡ all = sym (ap (λ (s : List ℕ). begins_with s wanted) p ∙ ap (begins_with (first ∷ rest)) q) ∙ h in
    subst (λ (b : Bool). b && begins_with rest others ≡ all) (eq-eqb (upper first) byte same) here

pub other_letter : (left rest wanted others : List ℕ) (first byte : ℕ) (all : Bool) → left ≡ first ∷ rest → wanted ≡ byte ∷ others → ¬ (upper first ≡ byte)
    → begins_with left wanted ≡ all → false ≡ all
other_letter left rest wanted others first byte all p q differs h =
    let here : (upper first == byte) && begins_with rest others ≡ all = sym (ap (λ (s : List ℕ). begins_with s wanted) p ∙ ap (begins_with (first ∷ rest)) q) ∙ h in
    subst (λ (b : Bool). b && begins_with rest others ≡ all) (ne_eqb (upper first) byte differs) here

pub prefix_too_short : (left wanted others : List ℕ) (byte : ℕ) (all : Bool) → left ≡ [] → wanted ≡ byte ∷ others → begins_with left wanted ≡ all → false ≡ all
prefix_too_short left wanted others byte all p q h = sym (ap (λ (s : List ℕ). begins_with s wanted) p ∙ ap (begins_with []) q) ∙ h

no_prefix : (left : List ℕ) → begins_with left [] ≡ true
no_prefix [] = refl
no_prefix (byte ∷ bytes) = refl

pub all_letters : (left wanted : List ℕ) (all : Bool) → wanted ≡ [] → begins_with left wanted ≡ all → true ≡ all
all_letters left wanted all q h = sym (no_prefix left) ∙ sym (ap (begins_with left) q) ∙ h
