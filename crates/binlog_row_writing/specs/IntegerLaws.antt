-- The numbers of integers are read back as they were written.
use Rattle.std.proofs.Common.{◌≡◌, ℕ, suc, ◌+◌, ◌-◌, ◌*◌, ◌^◌, ◌≤◌, ℤ, pos, negsuc, ◌-ℤ◌, false, Ok, refl, ap, subst, ◌∙◌, arith}
use Rattle.std.specs.Prelude.{nat_lt}
use Rattle.std.proofs.lemmas.Bool.{ltb-true, le-ltb}
use Rattle.std.proofs.lemmas.Int.{ints}
use Rattle.std.proofs.Math.Nat.{pow-succ'}
use Rattle.byteorder.specs.Endian.{twos_complement}
use Rattle.binlog_row_writing.specs.Numbers.{integer_number}
use Rattle.binlog_row_writing.specs.FitLaws.{ok_if}
use Rattle.binlog_row_writing.specs.declared.new_value.NewValue.TheVariants.{Unsigned, Signed}

pub unsigned_back : (size n number : ℕ) → integer_number size (Unsigned number) ≡ Ok n → n ≡ number
unsigned_back size n number h = cc

-- The numbers of so many bytes are twice as many as those that are not negative.
two_halves : (size : ℕ) → 1 ≤ size → 2 ^ (8 * size) ≡ 2 * 2 ^ (8 * size - 1)
two_halves size some =
    let bits : 8 * size ≡ suc (8 * size - 1) = omega arith in
    ap (λ (b : ℕ). 2 ^ b) bits ∙ pow-succ' 2 (8 * size - 1)

below_zero : (n m all : ℕ) → n + m + 1 ≡ all → pos n -ℤ pos all ≡ negsuc m
below_zero n m all sum = omega (arith, ints)

-- The two's complement of the stored number is the number that was written.
pub signed_back : (size n : ℕ) (number : ℤ) → 1 ≤ size → integer_number size (Signed number) ≡ Ok n → twos_complement size n ≡ number
signed_back size n (pos m) some h =
    let p = ok_if (nat_lt m (2 ^ (8 * size - 1))) m n h in
    subst (λ (k : ℕ). twos_complement size k ≡ pos m) p.1 (rw p.0 refl)
signed_back size n (negsuc m) some h =
    let half : ℕ = 2 ^ (8 * size - 1) in
    let p = ok_if (nat_lt m half) (2 * half - 1 - m) n h in
    let less = ltb-true m half p.0 in
    let test : nat_lt n half ≡ false = le-ltb _ _ (omega (arith, less, p.1)) in
    rw test (below_zero n m (2 ^ (8 * size)) (omega (arith, less, p.1, two_halves size some)))
