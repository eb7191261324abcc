use Rattle.std.proofs.Common.{[], None, ◌∙◌, subst, sym, refl, arith}
use Rattle.std.specs.Prelude.{IsTrue}
use Rattle.binlog_gtid_sets.specs.GtidGroups.{pair_in, AreGroups}
use Rattle.binlog_gtid_sets.proofs.GtidDifferences.{group_tracked, subset_done}
use Rattle.binlog_gtid_sets.proofs.gtid_tracker.GtidTracker.is_subset.Goals as goal

pub returns-then-not-contains_group : goal.returns-then-not-contains_group
returns-then-not-contains_group c = (
  λ h. absurd cc,
  λ all.
      let items = c.deref-group-items.result.now in
      let are : AreGroups items = subst AreGroups (sym c.deref-group-items.ensures.value) c.self.invariant in
      let g = c.group-item.result in
      let inside : IsTrue c.contains_group.result =
      c.contains_group.ensures.1 (λ n held. all (pair_in g) n (rw (← c.self.view_is, ← c.deref-group-items.ensures.value) (group_tracked items are c.loop-group.group-index n g c.loop-group-test.true c.group-item.is held))) in
      absurd cc,
)

pub returns : goal.returns
returns c = (
  λ h q n held. subset_done c.deref-group-items.result.now c.args.other.now c.loop-group.group-index (omega arith) c.loop-group.invariant q n (record { sid = []; tag = None; gnos = [] }) (rw (c.deref-group-items.ensures.value ∙ c.self.view_is) held),
  λ all. refl,
)
