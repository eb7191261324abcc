-- Powers of two in 64 bits.
use Rattle.std.proofs.Common.{◌≡◌, ◌≢◌, ℕ, zero, suc, ◌-◌, ◌*◌, ◌/◌, ◌%◌, ◌^◌, ◌<◌, refl, arith}
use Rattle.std.proofs.Math.Nat.{pow-suc}
use Rattle.std.proofs.Math.Pow.{pow-lt}

half : (m : ℕ) → m < 2 ^ 64 → 1 * m % 18446744073709551616 ≡ (m * 2) / 2
half m fits = omega arith

pub half_power : (class : ℕ) → class ≢ 0 → class < 65 → 1 * 2 ^ (class - 1) % 18446744073709551616 ≡ (2 ^ class) / 2
half_power zero some small = absurd (some refl)
half_power (suc k) some small =
    let back : suc k - 1 ≡ k = omega arith in
    let less : k < 64 = omega arith in
    rw (back, pow-suc 2 k) (half (2 ^ k) (pow-lt less))
