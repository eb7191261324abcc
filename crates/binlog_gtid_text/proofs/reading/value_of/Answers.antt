use Rattle.std.proofs.Common.{sym}
use Rattle.binlog_gtid_text.proofs.Read.{digits_text, no_value}
use Rattle.binlog_gtid_text.proofs.reading.value_of.Goals as goal

pub returns-in_default-clause-value : goal.returns-in_default-clause-value
returns-in_default-clause-value c = absurd (c.in_default.ensures.cases.0 (digits_text c.args.digits.now c.requires.digits))

pub returns-in-Err-clause-value : goal.returns-in-Err-clause-value
returns-in-Err-clause-value c =
    let gives = rw (c.in-Ok.ensures.cases.0) at c.parse.ensures.value.0 in
    sym (no_value c.args.digits.now c.parse.result gives c.requires.digits c.requires.some _ c.in-Err.is)
