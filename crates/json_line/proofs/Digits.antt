-- The number of digits of a number.
use Rattle.std.proofs.Common.{◌≡◌, ℕ, ◌+◌, ◌/◌, ◌^◌, ◌<◌, ◌≤◌, length, arith}
use Rattle.std.specs.Fmt.{decimal}
use Rattle.std.proofs.lemmas.Fmt.{length-decimal-le_wide}
use Rattle.itoa.proofs.Decimal.{length_one, length_two, length_pair, length_four, length_step_wide}

pub three_digits : (n : ℕ) → 100 ≤ n → n < 1000 → length (decimal n) ≡ 3
three_digits n lo hi = omega (arith, length_pair n lo (omega arith), length_one (n / 100) (omega arith))

pub four_digits : (n : ℕ) → 1000 ≤ n → n < 10000 → length (decimal n) ≡ 4
four_digits n lo hi = omega (arith, length_pair n (omega arith) (omega arith), length_two (n / 100) (omega arith) (omega arith))

pub five_digits : (n : ℕ) → 10000 ≤ n → n < 100000 → length (decimal n) ≡ 5
five_digits n lo hi = omega (arith, length_four n lo (omega arith), length_one (n / 10000) (omega arith))

pub five_more : (n : ℕ) → 100000 ≤ n → n < 2 ^ 64 → length (decimal n) ≡ length (decimal (n / 100000)) + 5
five_more n lo hi =
    let same : n / 10000 / 10 ≡ n / 100000 = omega arith in
    let step = length_step_wide (n / 10000) (omega arith) (omega arith) in
    omega (arith, length_four n (omega arith) hi, rw same at step)

pub ten_more : (n : ℕ) → 10000000000 ≤ n → n < 2 ^ 64 → length (decimal n) ≡ length (decimal (n / 10000000000)) + 10
ten_more n lo hi =
    let same : n / 100000 / 100000 ≡ n / 10000000000 = omega arith in
    let step = five_more (n / 100000) (omega arith) (omega arith) in
    omega (arith, five_more n (omega arith) hi, rw same at step)

pub fifteen_more : (n : ℕ) → 1000000000000000 ≤ n → n < 2 ^ 64 → length (decimal n) ≡ length (decimal (n / 1000000000000000)) + 15
fifteen_more n lo hi =
    let same : n / 10000000000 / 100000 ≡ n / 1000000000000000 = omega arith in
    let step = five_more (n / 10000000000) (omega arith) (omega arith) in
    omega (arith, ten_more n (omega arith) hi, rw same at step)

pub at_most_twenty : (n : ℕ) → n < 2 ^ 64 → length (decimal n) ≤ 20
at_most_twenty n below = length-decimal-le_wide 20 n (omega arith) (omega arith) (omega arith)
