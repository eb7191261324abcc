use Rattle.std.proofs.Common.{◌≡◌, ℕ, suc, ◌+◌, ◌-◌, ◌<◌, take, drop, get_or, ap, sym, ◌∙◌, arith}
use Rattle.binary_json.specs.Opaques.{magnitude, number_behind}
use Rattle.binary_json.proofs.Decimals.{byte_taken, byte_below, three_below}
use Rattle.binary_json.proofs.decimal.group.Goals as goal

pub overflow_mul-number : goal.overflow_mul-number
overflow_mul-number c =
    let small = three_below c.bytes.number (c.bytes.index - c.args.at) c.bytes.invariant.0 (omega arith) in
    omega (arith, small)

pub overflow_add-number : goal.overflow_add-number
overflow_add-number c =
    let small = three_below c.bytes.number (c.bytes.index - c.args.at) c.bytes.invariant.0 (omega arith) in
    omega (arith, small)

pub bytes-preserved : goal.bytes-preserved
bytes-preserved c =
    let s = c.args.digits.now in
    let i = c.bytes.index in
    let number = c.bytes.number in
    let b = c.from.result in
    let byte : b < 256 = omega arith in
    let k : i + 1 - c.args.at ≡ suc (i - c.args.at) = omega arith in
    let n : c.args.at + c.args.len - i ≡ suc (c.args.at + c.args.len - (i + 1)) = omega arith in
    let is : b ≡ get_or (magnitude s) i 0 = cc (c.from.ensures, c.magnitude_at.ensures) in
    let one = byte_taken number i (c.args.at + c.args.len - (i + 1)) s (omega arith) in
    (rw k (byte_below number (i - c.args.at) b c.bytes.invariant.0 byte), rw is (sym one ∙ ap (λ (m : ℕ). number_behind number (take m (drop i (magnitude s)))) (sym n) ∙ c.bytes.invariant.1))
