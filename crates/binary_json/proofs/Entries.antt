-- The check of entries one after the other, as a loop does it.
use Rattle.std.proofs.Common.{◌≡◌, ℕ, suc, ◌-◌, ◌+◌, ◌≤◌, ◌<◌, List, Ok, Err, refl, sym, ◌∙◌, arith}
use Rattle.binary_json.specs.declared.error.JsonError.{JsonError}
use Rattle.binary_json.specs.Refusals.{Left, Check, key_left, value_left_by, entries_left}

module _ (check : Check) (t place : ℕ) (s : List ℕ) (n i left : ℕ) (total : Left) (less : i < n) (so_far : entries_left check t place s (n - i) i left ≡ total) where
  pub goes_on : (a b : ℕ) → key_left t place s i left ≡ Ok a → value_left_by check t place s i a ≡ Ok b → entries_left check t place s (n - (i + 1)) (i + 1) b ≡ total
  unfolding entries_left
  goes_on a b key value =
      let k : n - i ≡ suc (n - (i + 1)) = omega arith in
      let next : suc i ≡ i + 1 = omega arith in
      let one : entries_left check t place s (n - i) i left ≡ entries_left check t place s (n - (i + 1)) (i + 1) b = rw (k, key, value, next) refl in
      sym one ∙ so_far

  pub key_ends : (e : JsonError) → key_left t place s i left ≡ Err e → total ≡ Err e
  unfolding entries_left
  key_ends e key =
      let k : n - i ≡ suc (n - (i + 1)) = omega arith in
      let one : entries_left check t place s (n - i) i left ≡ Err e = rw (k, key) refl in
      sym so_far ∙ one

  pub value_ends : (a : ℕ) (e : JsonError) → key_left t place s i left ≡ Ok a → value_left_by check t place s i a ≡ Err e → total ≡ Err e
  unfolding entries_left
  value_ends a e key value =
      let k : n - i ≡ suc (n - (i + 1)) = omega arith in
      let one : entries_left check t place s (n - i) i left ≡ Err e = rw (k, key, value) refl in
      sym so_far ∙ one

pub all_checked : (check : Check) (t place : ℕ) (s : List ℕ) (n i left : ℕ) (total : Left) → n ≤ i → entries_left check t place s (n - i) i left ≡ total → total ≡ Ok left
unfolding entries_left
all_checked check t place s n i left total le so_far =
    let k : n - i ≡ 0 = omega arith in
    let one : entries_left check t place s (n - i) i left ≡ Ok left = rw k refl in
    sym so_far ∙ one
