use Rattle.std.proofs.Common.{◌∙◌, sym, subst, refl, arith}
use Rattle.std.specs.Prelude.{IsTrue}
use Rattle.binlog_gtids.specs.GnoSets.{AreApart}
use Rattle.binlog_gtids.proofs.GnoSets.{interval, some_at}
use Rattle.binlog_gtids.proofs.GnoDifferences.{held_at, subset_done}
use Rattle.binlog_gtids.proofs.gno_set.GnoSet.is_subset.Goals as goal

pub contains_all-requires : goal.contains_all-requires
contains_all-requires c =
    let items = c.deref-interval-items in
    let each = some_at items.result.now 0 c.loop-interval.interval-index (interval 0 0) (subst (AreApart 0) (sym items.ensures.value) c.self.invariant) c.loop-interval-test.true in
    omega (arith, each.1, c.start.ensures, c.end.ensures)

pub returns-then-not-contains_all : goal.returns-then-not-contains_all
returns-then-not-contains_all c = (
  λ h. absurd cc,
  λ all.
      let items = c.deref-interval-items in
      let within : IsTrue c.contains_all.result =
      c.contains_all.ensures.1 (λ n inside.
      all n (rw (← c.self.view_is, ← items.ensures.value)
      (held_at items.result.now c.loop-interval.interval-index n (interval 0 0) c.loop-interval-test.true (rw (c.start.ensures, c.end.ensures) at inside)))) in
      absurd cc,
)

pub returns : goal.returns
returns c = (
  λ h n held. subset_done c.deref-interval-items.result.now c.args.other.now c.loop-interval.interval-index (omega arith) c.loop-interval.invariant n (rw (c.deref-interval-items.ensures.value ∙ c.self.view_is) held),
  λ all. refl,
)
