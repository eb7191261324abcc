-- What one fact more makes of what is counted.
use Rattle.std.proofs.Common.{◌≡◌, ℕ, ◌+◌, ◌-◌, Bool, true, false, cond, List, [], ◌∷◌, ◌++◌, length, Option, Some, refl, sym, ap, ◌∙◌, arith, append-nil}
use Rattle.std.specs.Prelude.{filter, count_by, slice_get, option_map, unwrap_or}
use Rattle.std.proofs.lemmas.List.{length_push}
use Rattle.std.proofs.lemmas.List.Elements.{filter-append}
use Rattle.std.proofs.lemmas.List.Sums.{sum_by_push}
use Rattle.change_statistics.specs.Counting.{saturated, counted, counted_if}

-- ---- one count more

pub counted_more : (old n more : ℕ) → old ≡ saturated n → counted old more ≡ saturated (n + more)
counted_more old n more was = omega arith

pub counted_if_more : (b : Bool) (old n : ℕ) → old ≡ saturated n → counted_if b old ≡ saturated (n + cond b 1 0)
counted_if_more true old n was = counted_more old n 1 was
counted_if_more false old n was = omega arith

-- ---- lists

module _ {X : Type 0} where
  module _ (p : X → Bool) (xs : List X) (x : X) where
    pub count_more : count_by p (xs ++ x ∷ []) ≡ count_by p xs + cond (p x) 1 0
    count_more = sum_by_push (λ (y : X). cond (p y) 1 0) xs x

    -- an element that passes comes behind those that pass
    filter_one : (b : Bool) → p x ≡ b → filter p (x ∷ []) ≡ cond b (x ∷ []) []
    filter_one true is = rw is refl
    filter_one false is = rw is refl

    pub filter_more : p x ≡ true → filter p (xs ++ x ∷ []) ≡ filter p xs ++ x ∷ []
    filter_more is = filter-append p xs (x ∷ []) ∙ ap (λ (ys : List X). filter p xs ++ ys) (filter_one true is)

    pub filter_same : p x ≡ false → filter p (xs ++ x ∷ []) ≡ filter p xs
    filter_same is = filter-append p xs (x ∷ []) ∙ ap (λ (ys : List X). filter p xs ++ ys) (filter_one false is) ∙ append-nil (filter p xs)

  pub first_more : (f : X → ℕ) (xs : List X) (x : X) (old : Option ℕ) → old ≡ option_map f (slice_get xs 0) → Some (unwrap_or old (f x)) ≡ option_map f (slice_get (xs ++ x ∷ []) 0)
  first_more f [] x old was = rw was refl
  first_more f (first ∷ xs) x old was = rw was refl

  get_last : (xs : List X) (x : X) → slice_get (xs ++ x ∷ []) (length xs) ≡ Some x
  get_last [] x = refl
  get_last (first ∷ xs) x = get_last xs x

  pub last_more : (f : X → ℕ) (xs : List X) (x : X) → Some (f x) ≡ option_map f (slice_get (xs ++ x ∷ []) (length (xs ++ x ∷ []) - 1))
  last_more f xs x =
      let end : length (xs ++ x ∷ []) - 1 ≡ length xs = omega (arith, length_push xs x) in
      let last : slice_get (xs ++ x ∷ []) (length (xs ++ x ∷ []) - 1) ≡ Some x = ap (slice_get (xs ++ x ∷ [])) end ∙ get_last xs x in
      sym (ap (option_map f) last)
