use Rattle.std.proofs.Common.{sym, subst, arith}
use Rattle.binlog_gtids.specs.GnoSets.{AreApart}
use Rattle.binlog_gtids.proofs.GnoSets.{interval, some_at}
use Rattle.binlog_gtids.proofs.gno_set.GnoSet.difference.Goals as goal

pub insert_missing-requires-clause-positive : goal.insert_missing-requires-clause-positive
insert_missing-requires-clause-positive c =
    let items = c.deref-interval-items in
    let each = some_at items.result.now 0 c.loop-interval.interval-index (interval 0 0) (subst (AreApart 0) (sym items.ensures.value) c.self.invariant) c.loop-interval-test.true in
    omega (arith, each.0)

pub insert_missing-requires-clause-some : goal.insert_missing-requires-clause-some
insert_missing-requires-clause-some c =
    let items = c.deref-interval-items in
    let each = some_at items.result.now 0 c.loop-interval.interval-index (interval 0 0) (subst (AreApart 0) (sym items.ensures.value) c.self.invariant) c.loop-interval-test.true in
    each.1

pub insert_missing-requires-clause-small : goal.insert_missing-requires-clause-small
insert_missing-requires-clause-small c =
    let items = c.deref-interval-items in
    let each = some_at items.result.now 0 c.loop-interval.interval-index (interval 0 0) (subst (AreApart 0) (sym items.ensures.value) c.self.invariant) c.loop-interval-test.true in
    each.2
