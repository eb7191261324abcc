-- Bytes that are padded with zeros.
use Rattle.std.proofs.Common.{◌≡◌, ℕ, ◌-◌, ◌≤◌, List, ◌++◌, length, replicate, ap, ◌∙◌, append-nil, arith}
use Rattle.binlog_json_values.specs.Values.{padded}

-- Bytes that are long enough are left as they are.
pub long_enough : (len : ℕ) (s : List ℕ) → len ≤ length s → padded len s ≡ s
long_enough len s long =
    let none : len - length s ≡ 0 = omega (arith, long) in
    ap (λ (n : ℕ). s ++ replicate n 0) none ∙ append-nil s
