-- Integers in two's complement.
use Rattle.std.proofs.Common.{◌≡◌, ℕ, suc, ◌-◌, ◌*◌, ◌%◌, ◌^◌, ◌<◌, ◌≤◌, negsuc, ap, sym, ◌∙◌, arith}
use Rattle.std.proofs.Math.Nat.{pow-succ', pow-le-pow_right}
use Rattle.std.proofs.lemmas.Bool.{le-ltb}
use Rattle.std.proofs.lemmas.Int.{ints}
use Rattle.std.proofs.lemmas.Nat.{one_shl}
use Rattle.byteorder.specs.Endian.{twos_complement}
use Rattle.binlog_values.proofs.Loads.{shift_power}

-- The numbers of so many bytes are twice as many as those that aren't negative.
pub signed_halves : (size : ℕ) → 1 ≤ size → 256 ^ size ≡ 2 * 2 ^ (8 * size - 1)
signed_halves size some =
    let bits : 8 * size ≡ suc (8 * size - 1) = omega arith in
    sym (shift_power size) ∙ ap (λ (b : ℕ). 2 ^ b) bits ∙ pow-succ' 2 (8 * size - 1)

-- The least bits of a negative number, by a shift.
pub half_shifted : (size : ℕ) → 1 ≤ size → size ≤ 8 → 1 * 2 ^ (8 * size - 1) % 18446744073709551616 ≡ 2 ^ (8 * size - 1)
half_shifted size some most = one_shl (8 * size - 1) 64 (omega arith)

pub half_small : (size : ℕ) → 1 ≤ size → size ≤ 8 → 2 ^ (8 * size - 1) ≤ 2 ^ 63
half_small size some most = let few : 8 * size - 1 ≤ 63 = omega arith in pow-le-pow_right (omega arith) few

-- A negative number is the complement of its bits, negated, less one.
pub negative_is : (size bits complement : ℕ) → 1 ≤ size → bits < 256 ^ size → 2 ^ (8 * size - 1) ≤ bits → complement ≡ 2 ^ (8 * size - 1) - 1 - (bits - 2 ^ (8 * size - 1))
    → twos_complement size bits ≡ negsuc complement
negative_is size bits complement some fits high is =
    let test = le-ltb bits (2 ^ (8 * size - 1)) high in
    rw (test, shift_power size) (omega (arith, ints, signed_halves size some, fits, high, is))
