use Rattle.binlog_summaries.proofs.UnitCounts.{length_of}
use Rattle.binlog_summaries.proofs.intervals.seconds_in.Goals as goal

pub returns : goal.returns
returns c = rw (c.or-2.ensures, c.or.ensures) (length_of c.args.length.now c.seconds_with.result c.seconds_with-2.result c.seconds_with-3.result c.seconds_with.ensures c.seconds_with-2.ensures c.seconds_with-3.ensures)
