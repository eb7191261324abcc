use Rattle.std.proofs.Common.{◌∙◌, sym, subst, arith}
use Rattle.binlog_gtids.specs.GnoSets.{AreApart}
use Rattle.binlog_gtids.proofs.GnoSets.{interval, some_at, union_done}
use Rattle.binlog_gtids.proofs.gno_set.GnoSet.union.Goals as goal

pub insert-requires-clause-positive : goal.insert-requires-clause-positive
insert-requires-clause-positive c =
    let items = c.deref-interval-items in
    let each = some_at items.result.now 0 c.loop-interval.interval-index (interval 0 0) (subst (AreApart 0) (sym items.ensures.value) c.other.invariant) c.loop-interval-test.true in
    omega (arith, each.0, c.start.ensures)

pub insert-requires-clause-some : goal.insert-requires-clause-some
insert-requires-clause-some c =
    let items = c.deref-interval-items in
    let each = some_at items.result.now 0 c.loop-interval.interval-index (interval 0 0) (subst (AreApart 0) (sym items.ensures.value) c.other.invariant) c.loop-interval-test.true in
    omega (arith, each.1, c.start.ensures, c.end.ensures)

pub insert-requires-clause-small : goal.insert-requires-clause-small
insert-requires-clause-small c =
    let items = c.deref-interval-items in
    let each = some_at items.result.now 0 c.loop-interval.interval-index (interval 0 0) (subst (AreApart 0) (sym items.ensures.value) c.other.invariant) c.loop-interval-test.true in
    omega (arith, each.2, c.end.ensures)

pub returns-clause-ok : goal.returns-clause-ok
returns-clause-ok c = λ n.
    let items = c.deref-interval-items in
    union_done c.loop-interval.union items.result.now c.args.self.now c.args.other.now c.loop-interval.interval-index n
    (items.ensures.value ∙ c.other.view_is) (omega arith) c.loop-interval.invariant
