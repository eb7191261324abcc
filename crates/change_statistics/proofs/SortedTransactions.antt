-- Transactions, sorted one after another.
use Rattle.std.proofs.Common.{◌≡◌, ℕ, zero, suc, ◌+◌, ◌<◌, ◌≤◌, Bool, true, false, cond, not, ltb, List, [], ◌∷◌, ◌++◌, length, take, get_or, refl, sym, ap, subst, ◌∙◌, arith, append_assoc, append-nil}
use Rattle.std.specs.Prelude.{filter, unwrap_or, position, insert}
use Rattle.std.specs.List.{position_or_len}
use Rattle.std.specs.List.Sorted.{IsPermutation, IsStableBy, ties}
use Rattle.std.proofs.lemmas.Bool.Decides.{nat_tests}
use Rattle.std.proofs.lemmas.List.Elements.{filter-append}
use Rattle.std.proofs.lemmas.List.Sorted.{IsPermutation-refl, IsPermutation-push_more, IsPermutation-insert}
use Rattle.std.proofs.lemmas.List.Sums.{prefix_len-le-length}
use Rattle.change_statistics.specs.Transactions.{is_smaller, kept_with}
use Rattle.change_statistics.specs.WholeTransactions.{is_larger, AreLargest}
use Rattle.change_statistics.specs.declared.transaction.Transaction.{Transaction}

-- ---- one more

-- Behind those that are at least as large.
abbrev pub inserted : Transaction → List Transaction → List Transaction
inserted one [] = one ∷ []
inserted one (x ∷ xs) = cond (is_smaller x one) (one ∷ x ∷ xs) (x ∷ inserted one xs)

abbrev smaller_than : Transaction → Transaction → Bool
smaller_than one other = is_smaller other one

place_is : (p : Transaction → Bool) (xs : List Transaction) → unwrap_or (position p xs) (length xs) ≡ position_or_len p xs
place_is p xs = by (ltb (position_or_len p xs) (length xs)) refl
  where
    by : (b : Bool) → ltb (position_or_len p xs) (length xs) ≡ b → unwrap_or (position p xs) (length xs) ≡ position_or_len p xs
    by true is = rw is refl
    by false is = rw is (let within : position_or_len p xs ≤ length xs = prefix_len-le-length (λ x. not (p x)) xs in grind (arith, nat_tests))

placed_is : (one : Transaction) (xs : List Transaction) → insert xs (position_or_len (smaller_than one) xs) one ≡ inserted one xs
placed_is one [] = refl
placed_is one (x ∷ xs) = by (is_smaller x one) refl (placed_is one xs)
  where
    by : (b : Bool) → is_smaller x one ≡ b → insert xs (position_or_len (smaller_than one) xs) one ≡ inserted one xs
        → insert (x ∷ xs) (cond (not (is_smaller x one)) (1 + position_or_len (smaller_than one) xs) 0) one ≡ cond (is_smaller x one) (one ∷ x ∷ xs) (x ∷ inserted one xs)
    by true is rest = rw is refl
    by false is rest =
        let next : 1 + position_or_len (smaller_than one) xs ≡ suc (position_or_len (smaller_than one) xs) = omega arith in
        rw (is, next) (ap (λ (l : List Transaction). x ∷ l) rest)

pub kept_is : (limit : ℕ) (one : Transaction) (xs : List Transaction) → kept_with limit one xs ≡ take limit (inserted one xs)
kept_is limit one xs =
    ap (take limit) (ap (λ (n : ℕ). insert xs n one) (place_is (smaller_than one) xs) ∙ placed_is one xs)

-- What is cut off stays behind.
pub taken_inserted : (limit : ℕ) (one : Transaction) (xs : List Transaction) → take limit (inserted one (take limit xs)) ≡ take limit (inserted one xs)
taken_inserted zero one xs = refl
taken_inserted (suc limit) one [] = refl
taken_inserted (suc limit) one (x ∷ xs) = by (is_smaller x one) refl (taken_inserted limit one xs)
  where
    shorter : (limit : ℕ) (y : Transaction) (ys : List Transaction) → take limit (y ∷ take limit ys) ≡ take limit (y ∷ ys)
    shorter zero y ys = refl
    shorter (suc zero) y ys = refl
    shorter (suc (suc limit)) y [] = refl
    shorter (suc (suc limit)) y (z ∷ ys) = ap (λ (l : List Transaction). y ∷ l) (shorter (suc limit) z ys)

    by : (b : Bool) → is_smaller x one ≡ b → take limit (inserted one (take limit xs)) ≡ take limit (inserted one xs)
        → take (suc limit) (cond (is_smaller x one) (one ∷ x ∷ take limit xs) (x ∷ inserted one (take limit xs))) ≡ take (suc limit) (cond (is_smaller x one) (one ∷ x ∷ xs) (x ∷ inserted one xs))
    by true is rest = rw is (ap (λ (l : List Transaction). one ∷ l) (shorter limit x xs))
    by false is rest = rw is (ap (λ (l : List Transaction). x ∷ l) rest)

pub inserted_same : (one : Transaction) (xs : List Transaction) → IsPermutation (one ∷ xs) (inserted one xs)
inserted_same one xs =
    subst (IsPermutation (one ∷ xs)) (placed_is one xs) (IsPermutation-insert xs (position_or_len (smaller_than one) xs) one)

-- ---- in order

-- The transaction isn't smaller than any of these.
abbrev IsNoSmaller : Transaction → List Transaction → Type 0
IsNoSmaller x [] = Unit {0}
IsNoSmaller x (y ∷ ys) = (is_smaller x y ≡ false) × IsNoSmaller x ys

abbrev Descend : List Transaction → Type 0
Descend [] = Unit {0}
Descend (x ∷ xs) = IsNoSmaller x xs × Descend xs

no_smaller_inserted : (x one : Transaction) (xs : List Transaction) → is_smaller x one ≡ false → IsNoSmaller x xs → IsNoSmaller x (inserted one xs)
no_smaller_inserted x one [] is all = (is, tt)
no_smaller_inserted x one (y ∷ ys) is (first, rest) = by (is_smaller y one) refl (no_smaller_inserted x one ys is rest)
  where
    by : (b : Bool) → is_smaller y one ≡ b → IsNoSmaller x (inserted one ys) → IsNoSmaller x (cond (is_smaller y one) (one ∷ y ∷ ys) (y ∷ inserted one ys))
    by true smaller all = rw smaller (is, (first, rest))
    by false smaller all = rw smaller (first, all)

-- What isn't smaller than something larger isn't smaller either.
larger_first : (x y one : Transaction) → is_smaller x one ≡ true → is_smaller x y ≡ false → is_smaller one y ≡ false
larger_first x y one smaller not_smaller = grind (arith, nat_tests)

no_smaller_first : (one x : Transaction) (xs : List Transaction) → is_smaller x one ≡ true → IsNoSmaller x xs → IsNoSmaller one xs
no_smaller_first one x [] smaller all = tt
no_smaller_first one x (y ∷ ys) smaller (first, rest) = (larger_first x y one smaller first, no_smaller_first one x ys smaller rest)

not_both : (x one : Transaction) → is_smaller x one ≡ true → is_smaller one x ≡ false
not_both x one smaller = grind (arith, nat_tests)

descend_inserted : (one : Transaction) (xs : List Transaction) → Descend xs → Descend (inserted one xs)
descend_inserted one [] all = (tt, tt)
descend_inserted one (x ∷ xs) (first, rest) = by (is_smaller x one) refl (descend_inserted one xs rest)
  where
    by : (b : Bool) → is_smaller x one ≡ b → Descend (inserted one xs) → Descend (cond (is_smaller x one) (one ∷ x ∷ xs) (x ∷ inserted one xs))
    by true smaller all = rw smaller ((not_both x one smaller, no_smaller_first one x xs smaller first), (first, rest))
    by false smaller all = rw smaller (no_smaller_inserted x one xs smaller first, all)

descend_sorted : (xs : List Transaction) → Descend xs → (k : ℕ) (d : Transaction) → k + 1 < length xs → is_larger (get_or xs (k + 1) d) (get_or xs k d) ≡ false
descend_sorted [] all k d within = absurd (omega arith)
descend_sorted (x ∷ []) all k d within = absurd (omega arith)
descend_sorted (x ∷ y ∷ xs) (first, rest) zero d within = first.0
descend_sorted (x ∷ y ∷ xs) (first, rest) (suc k) d within =
    let next : suc k + 1 ≡ suc (k + 1) = omega arith in
    rw next (descend_sorted (y ∷ xs) rest k d (omega arith))

-- ---- ties

-- No one of these passes.
abbrev NonePasses : (Transaction → Bool) → List Transaction → Type 0
NonePasses p [] = Unit {0}
NonePasses p (x ∷ xs) = (p x ≡ false) × NonePasses p xs

filter_none : (p : Transaction → Bool) (xs : List Transaction) → NonePasses p xs → filter p xs ≡ []
filter_none p [] none = refl
filter_none p (x ∷ xs) (first, rest) = rw first (filter_none p xs rest)

no_tie : (x one y : Transaction) → ties is_larger x one ≡ true → is_smaller y one ≡ true → ties is_larger x y ≡ false
no_tie x one y tie smaller = grind (arith, nat_tests)

no_ties : (x one y : Transaction) (ys : List Transaction) → ties is_larger x one ≡ true → is_smaller y one ≡ true → IsNoSmaller y ys → NonePasses (ties is_larger x) ys
no_ties x one y [] tie smaller all = tt
no_ties x one y (z ∷ ys) tie smaller (first, rest) =
    let less : is_smaller z one ≡ true = grind (arith, nat_tests) in
    (no_tie x one z tie less, no_ties x one y ys tie smaller rest)

module _ (x : Transaction) where
  abbrev tied : Transaction → Bool
  tied = ties is_larger x

  filter_first : (one : Transaction) (xs : List Transaction) (b : Bool) → tied one ≡ b → (tied one ≡ true → NonePasses tied xs) → filter tied (one ∷ xs) ≡ filter tied (xs ++ one ∷ [])
  filter_first one xs true is none =
      let empty : filter tied xs ≡ [] = filter_none tied xs (none is) in
      rw (filter-append, is, empty) refl
  filter_first one xs false is none = rw (filter-append, is) (sym (append-nil (filter tied xs)))

  filter_inserted : (one : Transaction) (xs : List Transaction) → Descend xs → filter tied (inserted one xs) ≡ filter tied (xs ++ one ∷ [])
  filter_inserted one [] all = refl
  filter_inserted one (y ∷ ys) (first, rest) = by (is_smaller y one) refl (filter_inserted one ys rest)
    where
      by : (b : Bool) → is_smaller y one ≡ b → filter tied (inserted one ys) ≡ filter tied (ys ++ one ∷ [])
          → filter tied (cond (is_smaller y one) (one ∷ y ∷ ys) (y ∷ inserted one ys)) ≡ filter tied (y ∷ (ys ++ one ∷ []))
      by true smaller same =
          rw smaller (filter_first one (y ∷ ys) (tied one) refl (λ tie. (no_tie x one y tie smaller, no_ties x one y ys tie smaller first)))
      by false smaller same = rw smaller (ap (λ (l : List Transaction). cond (tied y) (y ∷ l) l) same)

-- ---- all

-- The list is the other, sorted.
record IsSortOf (all sorted : List Transaction) : Type 0 where
  same : IsPermutation all sorted
  descend : Descend sorted
  stable : IsStableBy is_larger all sorted

one_sorted : (all sorted : List Transaction) (one : Transaction) → IsSortOf all sorted → IsSortOf (all ++ one ∷ []) (inserted one sorted)
one_sorted all sorted one was = record {
  same = IsPermutation-push_more all sorted (inserted one sorted) one was.same (inserted_same one sorted);
  descend = descend_inserted one sorted was.descend;
  stable = λ x.
      filter_inserted x one sorted was.descend ∙ filter-append (ties is_larger x) sorted (one ∷ [])
      ∙ ap (λ (l : List Transaction). l ++ filter (ties is_larger x) (one ∷ [])) (was.stable x) ∙ sym (filter-append (ties is_larger x) all (one ∷ []));
}

-- These, inserted one after another.
abbrev pub all_inserted : List Transaction → List Transaction → List Transaction
all_inserted [] sorted = sorted
all_inserted (x ∷ xs) sorted = all_inserted xs (inserted x sorted)

all_sorted : (done xs sorted : List Transaction) → IsSortOf done sorted → IsSortOf (done ++ xs) (all_inserted xs sorted)
all_sorted done [] sorted was = subst (λ (l : List Transaction). IsSortOf l sorted) (sym (append-nil done)) was
all_sorted done (x ∷ xs) sorted was =
    subst (λ (l : List Transaction). IsSortOf l (all_inserted xs (inserted x sorted))) (append_assoc done (x ∷ []) xs)
    (all_sorted (done ++ x ∷ []) xs (inserted x sorted) (one_sorted done sorted x was))

pub first_are_largest : (limit : ℕ) (all : List Transaction) → AreLargest limit all (take limit (all_inserted all []))
first_are_largest limit all =
    let sort : IsSortOf all (all_inserted all []) = all_sorted [] all [] (record { same = IsPermutation-refl []; descend = tt; stable = λ x. refl }) in
    record {
      sorted = all_inserted all [];
      same = sort.same;
      is_sorted = λ k d low within. descend_sorted (all_inserted all []) sort.descend k d within;
      stable = sort.stable;
      are = refl;
    }
