use Rattle.std.proofs.Common.{map}
use Rattle.std.specs.Map.Iter.{deref_pair}
use Rattle.binlog_summaries.specs.StatsText.{Writes}
use Rattle.binlog_summaries.specs.IntervalText.{AreIntervalLines}
use Rattle.binlog_summaries.proofs.interval_text.write_lines.Given as goal

abbrev pub invariant-intervals : goal.invariant-intervals
invariant-intervals g l = Writes (AreIntervalLines (map deref_pair l.yielded)) (g.W.Write.contents l.fn.output) (g.W.Write.contents l.output)
