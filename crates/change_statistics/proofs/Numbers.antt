-- Tests of numbers.
use Rattle.std.proofs.Common.{◌≡◌, ℕ, true, eqb, refl, arith}
use Rattle.std.proofs.lemmas.Bool.{eq-eqb, eqb-true}
use Rattle.std.proofs.lemmas.Bool.Decides.{nat_tests}
use Rattle.std.specs.Ordering.{is_eq, nat_cmp}

pub same_number : (n m : ℕ) → eqb n m ≡ true → n ≡ m
same_number n m is = eqb-true n m is

pub own_number : (n : ℕ) → eqb n n ≡ true
own_number n = eq-eqb n n refl

-- A number that compares as equal is the same one.
pub is_number : (n m : ℕ) → is_eq (nat_cmp n m) ≡ eqb n m
is_number n m = grind (arith, nat_tests)
