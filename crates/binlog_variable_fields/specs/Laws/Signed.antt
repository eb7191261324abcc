-- The zigzag encoding is a bijection.
use Rattle.std.proofs.Common.{◌≡◌, ℕ, ◌/◌, ◌%◌, Bool, true, false, cond, eqb, arith, refl, ◌+◌, ◌*◌}
use Rattle.std.specs.Prelude.{pos, negsuc, ℤ}
use Rattle.std.proofs.lemmas.Bool.{eqb-true, eqb-false}
use Rattle.binlog_variable_fields.specs.Signed.{zigzag, unzigzag}

back_by : (n : ℕ) (b : Bool) → eqb (n % 2) 0 ≡ b → zigzag (cond b (pos (n / 2)) (negsuc (n / 2))) ≡ n
back_by n true h = let e : n % 2 ≡ 0 = eqb-true _ _ h in omega arith
back_by n false h = let e : (n % 2 ≡ 0 → ⊥) = eqb-false _ _ h in omega arith

pub zigzag_back : (n : ℕ) → zigzag (unzigzag n) ≡ n
zigzag_back n = back_by n _ refl

pub zigzag_forth : (x : ℤ) → unzigzag (zigzag x) ≡ x
zigzag_forth (pos n) =
    let even : 2 * n % 2 ≡ 0 = omega arith in
    let half : 2 * n / 2 ≡ n = omega arith in
    rw (even, half) refl
zigzag_forth (negsuc n) =
    let odd : (2 * n + 1) % 2 ≡ 1 = omega arith in
    let half : (2 * n + 1) / 2 ≡ n = omega arith in
    rw (odd, half) refl
