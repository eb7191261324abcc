-- Lengths, and the bytes behind them: what is checked is in the grammar, and what is in the grammar is checked.
use Rattle.std.proofs.Common.{◌≡◌, ℕ, zero, suc, ◌+◌, ◌-◌, ◌*◌, ◌^◌, ◌<◌, ◌≤◌, Bool, true, false, cond, ◌⊎◌, List, [], ◌∷◌, ◌++◌, length, take, drop, Option, Some, None, Ok, refl, sym, ap, subst, ◌∙◌, inl, inr, arith}
use Rattle.std.specs.Prelude.{nat_lt}
use Rattle.std.proofs.lemmas.Bool.{ltb-true, ltb-false, lt-ltb, le-ltb}
use Rattle.std.proofs.lemmas.List.{take-append-drop, length-append, length-take, length-take-le, length-drop}
use Rattle.std.proofs.Math.Seq.{take-append_seam, drop-append_seam}
use Rattle.binary_json.specs.Layout.{variable_in, with_low, if_small, variable, text_behind, text}
use Rattle.binary_json.specs.Grammar.{IsVariable, IsText}
use Rattle.binary_json.specs.Refusals.{spend, text_left_by, text_left}
use Rattle.binary_json.proofs.Steps.{passed, spent, spends}

-- ---- lengths

abbrev some : ℕ × ℕ → Option (ℕ × ℕ)
some p = Some p

abbrev none : Option (ℕ × ℕ)
none = None

pub record IsRead (most : ℕ) (s : List ℕ) (n k : ℕ) : Type 0 where
  pub some : 0 < k
  pub few : k ≤ most
  pub within : k ≤ length s
  pub spelled : IsVariable (take k s) n

with_low_some : (low : ℕ) (o : Option (ℕ × ℕ)) (p : ℕ × ℕ) → with_low low o ≡ Some p → (q : ℕ × ℕ) × (o ≡ Some q) × (low + 128 * q.0 ≡ p.0) × (suc q.1 ≡ p.1)
with_low_some low None p e = absurd cc
with_low_some low (Some q) p e =
    let is : (low + 128 * q.0, suc q.1) ≡ p = cc in
    (q, refl, ap (λ (r : ℕ × ℕ). r.0) is, ap (λ (r : ℕ × ℕ). r.1) is)

longer : (most b c n k high m : ℕ) (s : List ℕ) → 128 ≤ b → b - 128 + 128 * high ≡ n → suc m ≡ k → IsRead most (c ∷ s) high m → IsRead (suc most) (b ∷ c ∷ s) n k
longer most b c n k high zero s big is one read = absurd (omega (arith, read.some))
longer most b c n k high (suc m) s big is one read =
    let spelled : IsVariable (take (suc (suc m)) (b ∷ c ∷ s)) n = (big, (high, omega arith, read.spelled)) in
    subst (λ (j : ℕ). IsRead (suc most) (b ∷ c ∷ s) n j) one (record { some = omega arith; few = omega (arith, read.few); within = omega (arith, read.within); spelled = spelled })

some_is : (p q : ℕ × ℕ) → some p ≡ Some q → p ≡ q
some_is p q e = cc

some_none : (p : ℕ × ℕ) → none ≡ Some p → ⊥
some_none p e = cc

nothing_read : (most : ℕ) → variable_in most [] ≡ None
nothing_read zero = refl
nothing_read (suc most) = refl

some_chosen : (b : Bool) (q r : Option (ℕ × ℕ)) (p : ℕ × ℕ) → cond b q r ≡ Some p → ((b ≡ true) × (q ≡ Some p)) ⊎ ((b ≡ false) × (r ≡ Some p))
some_chosen true q r p e = inl (refl, e)
some_chosen false q r p e = inr (refl, e)

last_read : (most b : ℕ) (s : List ℕ) (p : ℕ × ℕ) → nat_lt b 128 ≡ true → some (b, 1) ≡ Some p → IsRead (suc most) (b ∷ s) p.0 p.1
last_read most b s p small e =
    let is : (b, 1) ≡ p = some_is (b, 1) p e in
    let read : IsRead (suc most) (b ∷ s) b 1 = record { some = omega arith; few = omega arith; within = omega arith; spelled = (ltb-true b 128 small, refl) } in
    subst (λ (q : ℕ × ℕ). IsRead (suc most) (b ∷ s) q.0 q.1) is read

variable_read : (most : ℕ) (s : List ℕ) (p : ℕ × ℕ) → variable_in most s ≡ Some p → IsRead most s p.0 p.1
variable_read zero s p e = absurd cc
variable_read (suc most) [] p e = absurd cc
variable_read (suc most) (b ∷ []) p e =
    elim (some_chosen (nat_lt b 128) (Some (b, 1)) (with_low (b - 128) (variable_in most [])) p e) [
      | inl x ↦ last_read most b [] p x.0 x.1
      | inr x ↦ let q = with_low_some (b - 128) (variable_in most []) p x.1 in absurd (some_none q.0 (sym (nothing_read most) ∙ q.1))
    ]
variable_read (suc most) (b ∷ c ∷ s) p e =
    elim (some_chosen (nat_lt b 128) (Some (b, 1)) (with_low (b - 128) (variable_in most (c ∷ s))) p e) [
      | inl x ↦ last_read most b (c ∷ s) p x.0 x.1
      | inr x ↦
          let q = with_low_some (b - 128) (variable_in most (c ∷ s)) p x.1 in
          longer most b c p.0 p.1 q.0.0 q.0.1 s (ltb-false b 128 x.0) q.2 q.3 (variable_read most (c ∷ s) q.0 q.1)
    ]

variable_again : (front : List ℕ) (most n : ℕ) (rest : List ℕ) → IsVariable front n → length front ≤ most → variable_in most (front ++ rest) ≡ Some (n, length front)
variable_again [] most n rest is few = absurd is
variable_again (b ∷ []) zero n rest is few = absurd (omega arith)
variable_again (b ∷ []) (suc most) n rest is few = rw (lt-ltb b 128 is.0, is.1) refl
variable_again (b ∷ c ∷ s) zero n rest is few = absurd (omega arith)
variable_again (b ∷ c ∷ s) (suc most) n rest is few =
    let again : variable_in most (c ∷ (s ++ rest)) ≡ Some (is.1.0, suc (length s)) = variable_again (c ∷ s) most is.1.0 rest is.1.2 (omega arith) in
    let value : b - 128 + 128 * is.1.0 ≡ n = omega (arith, is.0, is.1.1) in
    rw (le-ltb b 128 is.0, again) (ap (λ (m : ℕ). Some (m, suc (suc (length s)))) value)

-- ---- texts

if_small_some : (o : Option (ℕ × ℕ)) (p : ℕ × ℕ) → if_small o ≡ Some p → (o ≡ Some p) × (p.0 < 2 ^ 32)
if_small_some None p e = absurd cc
if_small_some (Some q) p e =
    elim (some_chosen (nat_lt q.0 (2 ^ 32)) (Some q) None p e) [
      | inl x ↦ (x.1, subst (λ (r : ℕ × ℕ). r.0 < 2 ^ 32) (some_is q p x.1) (ltb-true q.0 (2 ^ 32) x.0))
      | inr x ↦ absurd (some_none p x.1)
    ]

IsTextOf : Option (ℕ × ℕ) → List ℕ → ℕ → ℕ → Type 0
IsTextOf o s from rest = (cost : ℕ) × IsText (text_behind o s) s cost × (cost + rest ≡ from)

text_by : (o : Option (ℕ × ℕ)) (place : ℕ) (s : List ℕ) (from rest : ℕ) → if_small (variable_in 5 s) ≡ o → text_left_by o place s from ≡ Ok rest → IsTextOf o s from rest
unfolding IsTextOf
text_by None place s from rest is e = absurd cc
text_by (Some p) place s from rest is e =
    let read = if_small_some (variable_in 5 s) p is in
    let spelled = variable_read 5 s p read.0 in
    let test = passed (nat_lt (length s) (p.1 + p.0)) _ (spend (p.1 + p.0) place from) rest e in
    let enough : p.1 + p.0 ≤ length s = ltb-false _ _ test.0 in
    let m : ℕ = p.1 + p.0 - p.1 in
    let bytes : List ℕ = take m (drop p.1 s) in
    let len : length bytes ≡ p.0 = omega (arith, length-take m (drop p.1 s), length-drop p.1 s) in
    let front : length (take p.1 s) ≡ p.1 = length-take-le p.1 s spelled.within in
    let parts : s ≡ take p.1 s ++ (bytes ++ drop m (drop p.1 s)) = sym (take-append-drop p.1 s) ∙ ap (λ (r : List ℕ). take p.1 s ++ r) (sym (take-append-drop m (drop p.1 s))) in
    let text : IsText bytes s (p.1 + p.0) = record {
      front = take p.1 s;
      rest = drop m (drop p.1 s);
      parts = parts;
      length_is = subst (λ (n : ℕ). IsVariable (take p.1 s) n) (sym len) spelled.spelled;
      short = omega (arith, front, spelled.few);
      small = omega (arith, len, read.1);
      cost_is = omega (arith, front, len);
    } in
    (p.1 + p.0, text, spent (p.1 + p.0) place from rest test.1)

pub text_sound : (place : ℕ) (s : List ℕ) (from rest : ℕ) → text_left place s from ≡ Ok rest → (cost : ℕ) × IsText (text s) s cost × (cost + rest ≡ from)
unfolding text_left variable text IsTextOf
text_sound place s from rest e = text_by (if_small (variable_in 5 s)) place s from rest refl e

-- ---- and back

module _ (front bytes behind : List ℕ) (spelled : IsVariable front (length bytes)) (short : length front ≤ 5) (small : length bytes < 2 ^ 32) where
  variable_is : if_small (variable_in 5 (front ++ (bytes ++ behind))) ≡ Some (length bytes, length front)
  variable_is = rw (variable_again front 5 (length bytes) (bytes ++ behind) spelled short, lt-ltb (length bytes) (2 ^ 32) small) refl

  text_again : text_behind (if_small (variable_in 5 (front ++ (bytes ++ behind)))) (front ++ (bytes ++ behind)) ≡ bytes
  text_again =
      let n : length front + length bytes - length front ≡ length bytes = omega arith in
      rw (variable_is, n, drop-append_seam front (bytes ++ behind)) (take-append_seam bytes behind)

  left_again : (place from rest : ℕ) → length front + length bytes + rest ≡ from → text_left_by (if_small (variable_in 5 (front ++ (bytes ++ behind)))) place (front ++ (bytes ++ behind)) from ≡ Ok rest
  left_again place from rest e =
      let enough : nat_lt (length (front ++ (bytes ++ behind))) (length front + length bytes) ≡ false = le-ltb _ _ (omega (arith, length-append front (bytes ++ behind), length-append bytes behind)) in
      rw (variable_is, enough) (spends (length front + length bytes) place from rest e)

pub text_complete : (bytes s : List ℕ) (cost place from rest : ℕ) → IsText bytes s cost → cost + rest ≡ from → (text_left place s from ≡ Ok rest) × (text s ≡ bytes)
unfolding text_left variable text
text_complete bytes s cost place from rest is e =
    let again : (text_left_by (if_small (variable_in 5 (is.front ++ (bytes ++ is.rest)))) place (is.front ++ (bytes ++ is.rest)) from ≡ Ok rest) × (text_behind (if_small (variable_in 5 (is.front ++ (bytes ++ is.rest)))) (is.front ++ (bytes ++ is.rest)) ≡ bytes) =
    (left_again is.front bytes is.rest is.length_is is.short is.small place from rest (omega (arith, e, is.cost_is)), text_again is.front bytes is.rest is.length_is is.short is.small) in
    subst (λ (r : List ℕ). (text_left_by (if_small (variable_in 5 r)) place r from ≡ Ok rest) × (text_behind (if_small (variable_in 5 r)) r ≡ bytes)) (sym is.parts) again
