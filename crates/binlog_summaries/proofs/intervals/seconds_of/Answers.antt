use Rattle.binlog_summaries.proofs.UnitCounts.{no_number}
use Rattle.binlog_summaries.proofs.intervals.seconds_of.Goals as goal

pub returns-in_default : goal.returns-in_default
returns-in_default c = no_number c.args.count.now c.args.unit c.in_default.ensures.value.0
