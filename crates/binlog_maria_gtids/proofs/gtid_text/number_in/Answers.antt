use Rattle.std.proofs.Common.{sym, ◌∙◌}
use Rattle.binlog_maria_gtids.proofs.GtidParts.{no_number}
use Rattle.binlog_maria_gtids.proofs.gtid_text.number_in.Goals as goal

pub returns-in-Err : goal.returns-in-Err
returns-in-Err c = no_number c.args.text.now c.parse.result c.parse.ensures.value.0 (sym c.has_digits_alone.ensures ∙ c.if-not-has_digits_alone.false) _ c.in-Err.is
