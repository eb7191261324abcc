use Rattle.std.proofs.Common.{◌≡◌, ◌+◌, rules, ◌∙◌, arith}
use Rattle.std.proofs.lemmas.Str.{IsCharBoundary-from_ascii}
use Rattle.binlog_values.specs.Texts.{digits_text}
use Rattle.binlog_values.proofs.DigitTexts.{digits_behind_one}
use Rattle.binlog_values.proofs.text.push_last_digits.Goals as goal

pub range-requires-clause-start_boundary : goal.range-requires-clause-start_boundary
range-requires-clause-start_boundary c =
    let power = c.pow_10-power.ensures in
    let digits = digits_behind_one _ c.args.count c.args.number _ power.power power.small power.some c.format-digits.ensures.text in
    λ _. IsCharBoundary-from_ascii c.format-digits.result.now 1 c.format-digits.ensures.ascii (omega (arith, digits.0))

pub range-requires-clause-end_boundary : goal.range-requires-clause-end_boundary
range-requires-clause-end_boundary c =
    let power = c.pow_10-power.ensures in
    let digits = digits_behind_one _ c.args.count c.args.number _ power.power power.small power.some c.format-digits.ensures.text in
    IsCharBoundary-from_ascii c.format-digits.result.now (1 + c.from.result) c.format-digits.ensures.ascii (omega (arith, digits.0, c.from.ensures))

pub returns : goal.returns
returns c =
    let power = c.pow_10-power.ensures in
    let digits = digits_behind_one _ c.args.count c.args.number _ power.power power.small power.some c.format-digits.ensures.text in
    let pushed : c.range.result.now ≡ digits_text c.args.count c.args.number = rw c.from.ensures at c.range.ensures.value ∙ digits.1 in
    rw (← pushed) (search rules)
