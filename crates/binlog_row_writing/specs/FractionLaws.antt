-- Laws of fractions of a second, behind a number.
use Rattle.std.proofs.Common.{◌≡◌, ℕ, zero, suc, ◌-◌, ◌*◌, ◌%◌, ◌^◌, ◌<◌, ◌≤◌, Bool, true, false, refl, arith}
use Rattle.std.specs.Prelude.{◌&&◌, ◌==◌, nat_lt, nat_le}
use Rattle.std.proofs.lemmas.Bool.{ltb-true, leb-true, eqb-true}
use Rattle.binlog_values.specs.Contents.{fraction_len, fraction_of, before_fraction}
use Rattle.binlog_row_writing.specs.Times.{is_fraction, fraction_number, with_fraction}

pub both : (a b : Bool) → (a && b) ≡ true → (a ≡ true) × (b ≡ true)
both true b h = (refl, h)
both false b h = absurd cc

-- What the test of a fraction says.
pub fraction_is : (digits us : ℕ) → is_fraction digits us ≡ true → (digits ≤ 6) × (us < 1000000) × (us % 10 ^ (6 - digits) ≡ 0)
fraction_is digits us h =
    let p = both (nat_le digits 6 && nat_lt us 1000000) (us % 10 ^ (6 - digits) == 0) h in
    let q = both (nat_le digits 6) (nat_lt us 1000000) p.0 in
    (leb-true digits 6 q.0, ltb-true us 1000000 q.1, eqb-true _ _ p.1)

-- The number before a fraction, and the fraction.
pub split_fraction : (digits n us : ℕ) → digits ≤ 6 → us < 1000000
    → (before_fraction digits (with_fraction digits n us) ≡ n) × (fraction_of digits (with_fraction digits n us) ≡ fraction_number digits us) × (fraction_number digits us < 100 ^ fraction_len digits)
split_fraction zero n us most below = (omega arith, omega arith, omega arith)
split_fraction (suc zero) n us most below = (omega arith, omega arith, omega arith)
split_fraction (suc (suc zero)) n us most below = (omega arith, omega arith, omega arith)
split_fraction (suc (suc (suc zero))) n us most below = (omega arith, omega arith, omega arith)
split_fraction (suc (suc (suc (suc zero)))) n us most below = (omega arith, omega arith, omega arith)
split_fraction (suc (suc (suc (suc (suc zero))))) n us most below = (omega arith, omega arith, omega arith)
split_fraction (suc (suc (suc (suc (suc (suc zero)))))) n us most below = (omega arith, omega arith, omega arith)
split_fraction (suc (suc (suc (suc (suc (suc (suc digits))))))) n us most below = absurd (omega arith)

-- The microseconds of a fraction.
pub whole_fraction : (digits us : ℕ) → digits ≤ 6 → us < 1000000 → us % 10 ^ (6 - digits) ≡ 0 → fraction_number digits us * 100 ^ (3 - fraction_len digits) ≡ us
whole_fraction zero us most below whole = omega arith
whole_fraction (suc zero) us most below whole = omega arith
whole_fraction (suc (suc zero)) us most below whole = omega arith
whole_fraction (suc (suc (suc zero))) us most below whole = omega arith
whole_fraction (suc (suc (suc (suc zero)))) us most below whole = omega arith
whole_fraction (suc (suc (suc (suc (suc zero))))) us most below whole = omega arith
whole_fraction (suc (suc (suc (suc (suc (suc zero)))))) us most below whole = omega arith
whole_fraction (suc (suc (suc (suc (suc (suc (suc digits))))))) us most below whole = absurd (omega arith)

-- A number with a fraction has as many bytes more as the fraction.
pub fraction_small : (digits n us high : ℕ) → digits ≤ 6 → us < 1000000 → n < high → with_fraction digits n us < high * 256 ^ fraction_len digits
fraction_small zero n us high most below less = omega arith
fraction_small (suc zero) n us high most below less = omega arith
fraction_small (suc (suc zero)) n us high most below less = omega arith
fraction_small (suc (suc (suc zero))) n us high most below less = omega arith
fraction_small (suc (suc (suc (suc zero)))) n us high most below less = omega arith
fraction_small (suc (suc (suc (suc (suc zero))))) n us high most below less = omega arith
fraction_small (suc (suc (suc (suc (suc (suc zero)))))) n us high most below less = omega arith
fraction_small (suc (suc (suc (suc (suc (suc (suc digits))))))) n us high most below less = absurd (omega arith)
