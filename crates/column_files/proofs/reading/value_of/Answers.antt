use Rattle.std.proofs.Common.{◌∙◌}
use Rattle.column_files.proofs.Numbers.{digits_text, value_is}
use Rattle.column_files.proofs.reading.value_of.Goals as goal

pub returns-in_default : goal.returns-in_default
returns-in_default c = absurd (c.in_default.ensures.cases.0 (digits_text c.args.digits.now c.requires.digits))

pub returns : goal.returns
returns c =
    let gives = rw (c.in-Ok.ensures.cases.0) at c.parse.ensures.value.0 in
    c.ok.ensures.value ∙ value_is c.args.digits.now c.parse.result gives c.requires.digits c.requires.some
