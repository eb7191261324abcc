-- Whether a version is one of MariaDB's can be told.
use Rattle.std.specs.Prelude.{codes, slice_index}
use Rattle.std.proofs.Common.{◌≡◌, ◌⊎◌, inl, inr, ℕ, zero, suc, ◌+◌, ◌<◌, ◌≤◌, List, length, sym, subst, arith}
use Rattle.std.proofs.Math.Logic.{⊎_elim}
use Rattle.std.proofs.lemmas.Bool.{cases_eq, cases_lt}
use Rattle.memchr.specs.Find.{OccursAt}
use Rattle.binlog_mariadb.specs.Flavour.{Contains, IsMariaVersion, version_text}

-- ---- what holds of each number below a bound, and of one of them

module _ (P : ℕ → Type 0) where
  at_or_below : (n k : ℕ) → ((i : ℕ) → i < n → P i) → P n → k < suc n → P k
  at_or_below n k below here under = ⊎_elim (λ same. subst P (sym same) here) (λ other. below k (omega (arith, other, under))) (cases_eq k n)

  all_behind : (n : ℕ) → (((i : ℕ) → i < n → P i) ⊎ (((i : ℕ) → i < n → P i) → ⊥)) → (P n ⊎ (P n → ⊥)) → (((i : ℕ) → i < suc n → P i) ⊎ (((i : ℕ) → i < suc n → P i) → ⊥))
  all_behind n (inl below) (inl here) = inl (λ k under. at_or_below n k below here under)
  all_behind n (inl below) (inr other) = inr (λ all. other (all n (omega arith)))
  all_behind n (inr some) here = inr (λ all. some (λ k under. all k (omega arith)))

  all_or_not : ((k : ℕ) → P k ⊎ (P k → ⊥)) → (n : ℕ) → (((i : ℕ) → i < n → P i) ⊎ (((i : ℕ) → i < n → P i) → ⊥))
  all_or_not each zero = inl (λ k under. absurd (omega arith))
  all_or_not each (suc n) = all_behind n (all_or_not each n) (each n)

  none_at_or_below : (n k : ℕ) → ((i : ℕ) → i < n → P i → ⊥) → (P n → ⊥) → k < suc n → P k → ⊥
  none_at_or_below n k below here under holds = ⊎_elim (λ same. here (subst P same holds)) (λ other. below k (omega (arith, other, under)) holds) (cases_eq k n)

  some_behind : (n : ℕ) → (((i : ℕ) × (i < n) × P i) ⊎ ((i : ℕ) → i < n → P i → ⊥)) → (P n ⊎ (P n → ⊥)) → (((i : ℕ) × (i < suc n) × P i) ⊎ ((i : ℕ) → i < suc n → P i → ⊥))
  some_behind n (inl (k, under, holds)) here = inl (k, omega arith, holds)
  some_behind n (inr none) (inl here) = inl (n, omega arith, here)
  some_behind n (inr none) (inr other) = inr (λ k under holds. none_at_or_below n k none other under holds)

  some_or_not : ((k : ℕ) → P k ⊎ (P k → ⊥)) → (n : ℕ) → (((i : ℕ) × (i < n) × P i) ⊎ ((i : ℕ) → i < n → P i → ⊥))
  some_or_not each zero = inr (λ k under holds. absurd (omega arith))
  some_or_not each (suc n) = some_behind n (some_or_not each n) (each n)

-- ---- a part of a text

occurs_by : (text part : List ℕ) (k : ℕ) → k + length part ≤ length text
    → (((j : ℕ) → j < length part → slice_index text (k + j) ≡ slice_index part j) ⊎ (((j : ℕ) → j < length part → slice_index text (k + j) ≡ slice_index part j) → ⊥))
    → (OccursAt text part k ⊎ (OccursAt text part k → ⊥))
occurs_by text part k fits (inl reads) = inl (record { fits = fits; reads = reads })
occurs_by text part k fits (inr other) = inr (λ occurs. other occurs.reads)

occurs_or_not : (text part : List ℕ) (k : ℕ) → OccursAt text part k ⊎ (OccursAt text part k → ⊥)
occurs_or_not text part k = ⊎_elim
    (λ long. inr (λ occurs. absurd (omega (arith, long, occurs.fits))))
    (λ fits. occurs_by text part k fits (all_or_not (λ (j : ℕ). slice_index text (k + j) ≡ slice_index part j) (λ j. cases_eq (slice_index text (k + j)) (slice_index part j)) (length part)))
    (cases_lt (length text) (k + length part))

contains_or_not : (text part : List ℕ) → Contains text part ⊎ (Contains text part → ⊥)
contains_or_not text part = ⊎_elim
    (λ found. inl (found.0, found.2))
    (λ none. inr (λ contains. none contains.0 (omega (arith, contains.1.fits)) contains.1))
    (some_or_not (OccursAt text part) (occurs_or_not text part) (length text + 1))

-- ---- the version

either_or_not : {A B : Type 0} → (A ⊎ (A → ⊥)) → (B ⊎ (B → ⊥)) → ((A ⊎ B) ⊎ ((A ⊎ B) → ⊥))
either_or_not (inl a) b = inl (inl a)
either_or_not (inr no_a) (inl b) = inl (inr b)
either_or_not (inr no_a) (inr no_b) = inr (λ either. ⊎_elim no_a no_b either)

pub maria_or_not : (version : List ℕ) → IsMariaVersion version ⊎ (IsMariaVersion version → ⊥)
maria_or_not version = either_or_not (contains_or_not (version_text version) (codes "MariaDB")) (contains_or_not (version_text version) (codes "-maria-"))
