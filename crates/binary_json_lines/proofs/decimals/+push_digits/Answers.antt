use Rattle.std.proofs.Common.{◌-◌, refl, sym, append-nil, arith, string_bytes}
use Rattle.std.proofs.Math.Nat.{one-le-pow}
use Rattle.binary_json_lines.proofs.DigitLemmas.{no_digits}
use Rattle.binary_json_lines.proofs.decimals.+push_digits.Goals as goal

pub returns-then-count-eq0-clause-text : goal.returns-then-count-eq0-clause-text
returns-then-count-eq0-clause-text t c =
    let none = no_digits c.args.count c.args.number (omega (arith, c.if-count-eq0.true)) in
    rw none (sym (append-nil (string_bytes c.args.text.now)))

pub returns-then-count-eq0-clause-begun : goal.returns-then-count-eq0-clause-begun
returns-then-count-eq0-clause-begun t c =
    let none = no_digits c.args.count c.args.number (omega (arith, c.if-count-eq0.true)) in
    rw none refl

pub nonzero_div-digit : goal.nonzero_div-digit
nonzero_div-digit t c = omega (arith, c.pow_10.ensures, one-le-pow (c.args.count - 1) 10 (omega arith))
