use Rattle.std.proofs.Common.{◌-◌, ◌*◌, ◌^◌, ◌≤◌, refl, arith}
use Rattle.std.proofs.lemmas.Int.{ints}
use Rattle.binlog_values.proofs.SignedNumbers.{signed_halves, half_shifted, half_small, negative_is}
use Rattle.binlog_values.proofs.numbers.Integer.signed.Goals as goal

pub overflow_sub-result-else-self-least-2 : goal.overflow_sub-result-else-self-least-2
overflow_sub-result-else-self-least-2 c =
    let i = c.args.self.now in
    omega (arith, half_shifted i.size i.some i.most, signed_halves i.size i.some, i.fits, c.if-self-least.false)

pub returns-else-self-least : goal.returns-else-self-least
returns-else-self-least c =
    let i = c.args.self.now in
    let shifted = half_shifted i.size i.some i.most in
    let high : 2 ^ (8 * i.size - 1) ≤ i.bits = omega (arith, shifted, c.if-self-least.false) in
    let small = half_small i.size i.some i.most in
    rw (shifted, negative_is i.size i.bits _ i.some i.fits high refl) (omega (arith, ints, small, high, i.fits, signed_halves i.size i.some))
