use Rattle.std.proofs.Common.{◌∙◌, add-one}
use Rattle.binlog_gtid_sets.specs.GtidGroups.{pair_of, is_same, is_tracked}
use Rattle.std.specs.Prelude.{option_copied}
use Rattle.binlog_gtid_sets.proofs.GtidGroups.{interval}
use Rattle.binlog_gtid_sets.proofs.AddedGtids.{good_after, interval_held}
use Rattle.binlog_gtid_sets.proofs.gtid_tracker.GtidTracker.insert_intervals.Goals as goal

pub loop-interval-preserved : goal.loop-interval-preserved
loop-interval-preserved c =
    let is = c.args.intervals.now in
    let k = c.loop-interval.interval-index in
    record {
      good = rw add-one (good_after is k c.loop-interval.invariant.good);
      whole = λ q n. rw add-one
          (interval_held is k n (interval 0 0) (is_same (pair_of c.args.sid.now (option_copied c.args.tag)) q) (is_tracked c.loop-interval.self q n) _ c.loop-interval-test.true (c.in_ok-insert_interval.ensures.ok q n)
          ∙ c.loop-interval.invariant.whole q n);
    }
