use Rattle.std.proofs.Common.{refl, arith}
use Rattle.std.specs.Prelude.{IsTrue}
use Rattle.binlog_gtids.proofs.GnoSets.{interval}
use Rattle.binlog_gtids.proofs.GnoDifferences.{held_at, subset_done}
use Rattle.binlog_gtid_sets.proofs.gtid_tracker.listed.contains_intervals.Goals as goal

pub returns-then-not-contains_interval : goal.returns-then-not-contains_interval
returns-then-not-contains_interval c = (
  λ h. absurd cc,
  λ all.
      let inside : IsTrue c.contains_interval.result =
      c.contains_interval.ensures.1 (λ n within. all n (held_at c.args.intervals.now c.loop-interval.interval-index n (interval 0 0) c.loop-interval-test.true within)) in
      absurd cc,
)

pub returns : goal.returns
returns c = (
  λ h n held. subset_done c.args.intervals.now c.args.gnos.now c.loop-interval.interval-index (omega arith) c.loop-interval.invariant n held,
  λ all. refl,
)
