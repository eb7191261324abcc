-- Tables of codes: each value has a code, and a code decodes to the value that has it.
use Rattle.std.proofs.Common.{◌≡◌, ℕ, ◌<◌, ◌≤◌, ◌^◌, ◌⊎◌, inl, inr, Bool, true, false, cond, eqb, ltb, List, [], ◌∷◌, Result, Ok, Err, refl, sym, ap, subst, arith, ◌∙◌}
use Rattle.std.specs.Prelude.{◌&&◌}
use Rattle.std.proofs.lemmas.Bool.{eqb-true, ltb-true, ne_eqb}
use Rattle.binlog_wire.specs.Laws.Numbers.{IsCode}

-- The value of these that has this number as its code, or else the error for an unknown number.
abbrev pub value_of : {E W : Type 0} → (E → ℕ) → List E → (ℕ → W) → ℕ → Result E W
value_of number [] unknown n = Err (unknown n)
value_of number (e ∷ values) unknown n = cond (eqb (number e) n) (Ok e) (value_of number values unknown n)

-- The codes of these values are below the bound.
abbrev pub are_below : {E : Type 0} → (E → ℕ) → ℕ → List E → Bool
are_below number bound [] = true
are_below number bound (e ∷ values) = ltb (number e) bound && are_below number bound values

both : (a b : Bool) → (a && b) ≡ true → (a ≡ true) × (b ≡ true)
both true b h = (refl, h)
both false b h = absurd cc

-- A step of the search finds the value at hand, or one after it.
found : {E W : Type 0} (b : Bool) (v : E) (rest : Result E W) (e : E) → cond b (Ok v) rest ≡ Ok e → ((b ≡ true) × (v ≡ e)) ⊎ (rest ≡ Ok e)
found true v rest e h = inl (refl, cc)
found false v rest e h = inr h

either : {A B C : Type 0} → (A → C) → (B → C) → A ⊎ B → C
either f g (inl a) = f a
either f g (inr b) = g b

-- A value is found only by its code.
only_number : {E W : Type 0} (number : E → ℕ) (values : List E) (unknown : ℕ → W) (n : ℕ) (e : E) → value_of number values unknown n ≡ Ok e → n ≡ number e
only_number number [] unknown n e h = absurd cc
only_number number (v ∷ values) unknown n e h =
    either (λ here. sym (eqb-true (number v) n here.0) ∙ ap number here.1) (only_number number values unknown n e) (found (eqb (number v) n) v (value_of number values unknown n) e h)

-- The code of a value that is found is below the bound.
found_below : {E W : Type 0} (number : E → ℕ) (values : List E) (unknown : ℕ → W) (bound n : ℕ) (e : E) → are_below number bound values ≡ true → value_of number values unknown n ≡ Ok e → number e < bound
found_below number [] unknown bound n e below h = absurd cc
found_below number (v ∷ values) unknown bound n e below h =
    let parts = both (ltb (number v) bound) (are_below number bound values) below in
    either (λ here. subst (λ x. number x < bound) here.1 (ltb-true (number v) bound parts.0)) (found_below number values unknown bound n e parts.1)
    (found (eqb (number v) n) v (value_of number values unknown n) e h)

-- The law of every table: the codes fit in k bytes and decode to their values.
pub is_code : {E W : Type 0} (k : ℕ) (number : E → ℕ) (values : List E) (unknown : ℕ → W)
    → are_below number (256 ^ k) values ≡ true → ((e : E) → value_of number values unknown (number e) ≡ Ok e) → IsCode k number (value_of number values unknown)
is_code k number values unknown below again = record {
  fits = λ e. found_below number values unknown (256 ^ k) (number e) e below (again e);
  again = again;
  only = only_number number values unknown;
}

-- A number above all codes of a table decodes to nothing.
pub unknown_above : {E W : Type 0} (number : E → ℕ) (values : List E) (unknown : ℕ → W) (bound n : ℕ) → are_below number bound values ≡ true → bound ≤ n
    → value_of number values unknown n ≡ Err (unknown n)
unknown_above number [] unknown bound n below above = refl
unknown_above number (v ∷ values) unknown bound n below above =
    let parts = both (ltb (number v) bound) (are_below number bound values) below in
    let less : number v < bound = ltb-true (number v) bound parts.0 in
    let other : eqb (number v) n ≡ false = ne_eqb (number v) n (λ e. omega (arith, less, e)) in
    rw other (unknown_above number values unknown bound n parts.1 above)
