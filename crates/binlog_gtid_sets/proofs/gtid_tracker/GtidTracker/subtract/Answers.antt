use Rattle.std.proofs.Common.{◌∙◌, get_or, ap, subst, sym, arith}
use Rattle.std.proofs.lemmas.List.{get_or_read}
use Rattle.binlog_gtid_sets.specs.declared.gtid_group.GtidGroup.{GtidGroup}
use Rattle.binlog_gtid_sets.specs.GtidGroups.{pair_in, compare_pairs, AreGroups}
use Rattle.binlog_gtid_sets.proofs.GtidDifferences.{group_step}
use Rattle.binlog_gtid_sets.proofs.gtid_tracker.GtidTracker.subtract.Goals as goal

pub loop-group-preserved : goal.loop-group-preserved
loop-group-preserved c =
    let items = c.deref-group-items.result.now in
    let k = c.loop-group.group-index in
    let g = c.group-item.result in
    let are : AreGroups items = subst AreGroups (sym c.deref-group-items.ensures.value) c.self.invariant in
    let put = c.in_ok-push_missing.ensures in
    record {
      are = put.are;
      below = λ j d from within.
          put.below (pair_in (get_or items j d)) (c.loop-group.invariant.below j d (omega arith) within)
          (ap (λ (x : GtidGroup). compare_pairs (pair_in x) (pair_in (get_or items j d))) (get_or_read items k g c.loop-group-test.true c.group-item.is d) ∙ are.ascending k j d (omega arith) within);
      whole = λ q n. group_step items c.args.other.now k n q g _ _ are c.loop-group-test.true c.group-item.is (put.ok q n) ∙ c.loop-group.invariant.whole q n;
    }
