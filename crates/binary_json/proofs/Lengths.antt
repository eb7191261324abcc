-- Numbers of a few bytes with seven bits each.
use Rattle.std.proofs.Common.{◌≡◌, ℕ, zero, suc, ◌-◌, ◌*◌, ◌^◌, ◌<◌, ◌≤◌, arith}
use Rattle.std.proofs.Math.Nat.{pow-succ', one-le-pow}
use Rattle.std.proofs.Math.Nat.{pow-le-pow_right}

pub one_byte_more : (m : ℕ) → 0 < m → 128 ^ m ≡ 128 * 128 ^ (m - 1)
one_byte_more zero some = absurd (omega arith)
one_byte_more (suc m) some = let e : suc m - 1 ≡ m = omega arith in rw e (pow-succ' 128 m)

pub some_values : (m : ℕ) → 1 ≤ 128 ^ m
some_values m = one-le-pow m 128 (omega arith)

pub few_values : (m : ℕ) → m ≤ 4 → 128 ^ m ≤ 268435456
few_values m few = pow-le-pow_right {n = 128} (omega arith) {i = m} {j = 4} few
