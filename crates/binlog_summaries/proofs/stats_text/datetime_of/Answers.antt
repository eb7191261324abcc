use Rattle.std.proofs.Common.{refl}
use Rattle.binlog_summaries.proofs.StatsTimes.{same_nanos}
use Rattle.binlog_summaries.proofs.stats_text.datetime_of.Goals as goal

pub returns : goal.returns
returns c = record {
  shown = c.to_datetime.result;
  same = same_nanos c.args.seconds c.ranges.seconds.fits c.from.result c.in-Ok.time.nanosecond _ c.from.ensures c.in-Ok.ensures.value c.to_datetime.ensures;
  is = refl;
}
