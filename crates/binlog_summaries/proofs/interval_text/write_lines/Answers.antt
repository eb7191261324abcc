use Rattle.std.proofs.Common.{◌≡◌, List, map, rules, subst}
use Rattle.std.proofs.lemmas.Map.Iter.{iter_end}
use Rattle.std.specs.Map.Iter.{deref_pair}
use Rattle.binlog_summaries.specs.StatsText.{Writes}
use Rattle.binlog_summaries.specs.IntervalText.{AreIntervalLines}
use Rattle.binlog_summaries.proofs.IntervalLines.{Entry, interval_written, no_interval_written}
use Rattle.binlog_summaries.proofs.interval_text.write_lines.Goals as goal

pub intervals-init : goal.intervals-init
intervals-init g c = no_interval_written _

pub intervals-preserved : goal.intervals-preserved
intervals-preserved g c = interval_written deref_pair c.intervals.yielded (c.in-Some.start, c.in-Some.counts) _ _ _ c.intervals.invariant c.in_ok-write_line.ensures

pub returns : goal.returns
returns g c =
    let whole : map deref_pair c.intervals.yielded ≡ c.args.stats.now.intervals.entries = search (rules, iter_end) in
    subst (λ (l : List Entry). Writes (AreIntervalLines l) (g.W.Write.contents c.args.output.now) (g.W.Write.contents c.intervals.output)) whole c.intervals.invariant
