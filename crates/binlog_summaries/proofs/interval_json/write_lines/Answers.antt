use Rattle.std.specs.Map.Iter.{deref_pair}
use Rattle.binlog_summaries.specs.IntervalJson.{interval_line}
use Rattle.binlog_summaries.proofs.IntervalLines.{interval_appended}
use Rattle.binlog_summaries.proofs.interval_json.write_lines.Goals as goal

pub intervals-preserved : goal.intervals-preserved
intervals-preserved g c = interval_appended deref_pair c.intervals.yielded (c.in-Some.start, c.in-Some.counts) interval_line _ _ _ c.intervals.invariant c.in_ok-write_line.ensures
