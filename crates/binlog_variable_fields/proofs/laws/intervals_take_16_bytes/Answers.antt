use Rattle.binlog_variable_fields.specs.Laws.GnoIntervals.{interval_long}
use Rattle.binlog_variable_fields.proofs.laws.intervals_take_16_bytes.Goals as goal

pub returns : goal.returns
returns c = interval_long
