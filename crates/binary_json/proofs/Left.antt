-- What is left of a list.
use Rattle.std.proofs.Common.{◌≡◌, ℕ, zero, suc, ◌+◌, ◌<◌, ◌≤◌, List, [], ◌∷◌, length, drop, Option, Some, None, refl, sym, ap, ◌∙◌, arith}
use Rattle.std.specs.Prelude.{option_map, slice_get, MatchOption}

pub nothing_left : {A : Type 0} (xs : List A) (i : ℕ) → length xs ≤ i → drop i xs ≡ []
nothing_left [] zero past = refl
nothing_left [] (suc i) past = refl
nothing_left (x ∷ xs) zero past = absurd (omega arith)
nothing_left (x ∷ xs) (suc i) past = nothing_left xs i (omega arith)

abbrev pub some : {A : Type 0} → A → Option A
some x = Some x

abbrev pub none : {A : Type 0} → Option A
none = None

pub some_is : {A : Type 0} (x y : A) → some x ≡ some y → x ≡ y
some_is x y e = cc

pub none_some : {A : Type 0} (x : A) → none ≡ some x → ⊥
none_some x e = cc

first_left : {A : Type 0} (xs : List A) (i : ℕ) (x : A) → some x ≡ slice_get xs i → drop i xs ≡ x ∷ drop (suc i) xs
first_left [] i x e = absurd (none_some x (sym e))
first_left (y ∷ xs) zero x e = ap (λ z. z ∷ xs) (sym (some_is x y e))
first_left (y ∷ xs) (suc i) x e = first_left xs i x e

there : {A : Type 0} (xs : List A) (i : ℕ) → i < length xs → (x : A) × (slice_get xs i ≡ Some x)
there [] i less = absurd (omega arith)
there (x ∷ xs) zero less = (x, refl)
there (x ∷ xs) (suc i) less = there xs i (omega arith)

pub yields : {A B : Type 0} (view : B → A) (xs : List A) (i : ℕ) (o : Option B) → option_map view o ≡ slice_get xs i → i < length xs
    → MatchOption o ((drop i xs ≡ []) × (drop (i + 1) xs ≡ [])) (λ x. drop i xs ≡ view x ∷ drop (i + 1) xs)
yields view xs i None e less = let x = there xs i less in absurd (none_some x.0 (e ∙ x.1))
yields view xs i (Some y) e less =
    let next : suc i ≡ i + 1 = omega arith in
    first_left xs i (view y) e ∙ ap (λ (k : ℕ). view y ∷ drop k xs) next
