use Rattle.std.proofs.Common.{add-one, arith}
use Rattle.binlog_variable_fields.specs.declared.gno_interval.GnoInterval.{GnoInterval}
use Rattle.binlog_gtid_text.proofs.Appended.{interval_put, intervals_put, interval_filled, next_apart}
use Rattle.binlog_gtid_text.proofs.printing.push_intervals.Goals as goal

abbrev none : GnoInterval
none = record { start = 0; end = 0 }

pub push_interval-requires : goal.push_interval-requires
push_interval-requires c = let apart = c.loop-interval.invariant.apart in interval_filled c.args.intervals.now c.loop-interval.interval-index apart.0 none c.loop-interval-test.true apart.1

pub loop-interval-preserved : goal.loop-interval-preserved
loop-interval-preserved c =
    let is = c.args.intervals.now in
    let k = c.loop-interval.interval-index in
    let apart = c.loop-interval.invariant.apart in
    record {
      apart = rw add-one (next_apart is k apart.0 c.loop-interval-test.true apart.1);
      whole = rw add-one (interval_put is k none _ _ _ c.loop-interval-test.true c.in_ok-push_interval.ensures.ok c.loop-interval.invariant.whole);
    }

pub returns-clause-ok : goal.returns-clause-ok
returns-clause-ok c = intervals_put c.args.intervals.now c.loop-interval.interval-index _ _ (omega arith) c.loop-interval.invariant.whole
