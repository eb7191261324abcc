use Rattle.std.proofs.Common.{◌≡◌, ℕ, ◌+◌, ◌-◌, ◌*◌, ◌^◌, ◌<◌, ◌≤◌, List, length, take, get_or, arith, refl}
use Rattle.std.specs.Char.{digit_value, IsAsciiDigit}
use Rattle.std.specs.Str.Parse.{digits_value}
use Rattle.std.proofs.lemmas.Bool.{le-ltb}
use Rattle.std.proofs.lemmas.Int.Digits.{digits_value_more}
use Rattle.std.proofs.lemmas.Str.{digit_value_digit}
use Rattle.std.proofs.lemmas.Str.Parse.{digits_value-take-le}
use Rattle.binary_json_writing.proofs.paths.number_of.Goals as goal

-- The value of one digit more.
value_more : (digits : List ℕ) (i number digit : ℕ) → i < length digits → IsAsciiDigit (get_or digits i 0)
    → number ≡ digits_value 10 (take i digits) → digit ≡ get_or digits i 0 - 48
    → number * 10 + digit ≡ digits_value 10 (take (i + 1) digits)
value_more digits i number digit before is_digit so_far read =
    let digit_is : digit_value (get_or digits i 0) + 48 ≡ get_or digits i 0 = digit_value_digit _ is_digit in
    omega (arith, digits_value_more 10 digits i before)

pub returns-then-number-ge-TOO_GREAT : goal.returns-then-number-ge-TOO_GREAT
returns-then-number-ge-TOO_GREAT c =
    let digits = c.args.digits.now in
    let i = c.loop-digit.digit-index in
    let more = value_more digits i c.loop-digit.number c.from.result (omega arith) (c.requires i (omega arith)) c.loop-digit.invariant.0 c.from.ensures in
    let large : 2 ^ 32 ≤ digits_value 10 digits = omega (arith, more, digits_value-take-le 10 digits (i + 1) (omega arith), c.if-number-ge-TOO_GREAT.true) in
    rw (le-ltb (digits_value 10 digits) (2 ^ 32) large) refl

pub loop-digit-preserved : goal.loop-digit-preserved
loop-digit-preserved c =
    let i = c.loop-digit.digit-index in
    let more = value_more c.args.digits.now i c.loop-digit.number c.from.result (omega arith) (c.requires i (omega arith)) c.loop-digit.invariant.0 c.from.ensures in
    (more, omega arith)
