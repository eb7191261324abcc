use Rattle.std.proofs.Common.{◌≡◌, arith}
use Rattle.binlog_gtids.proofs.GnoSets.{gaps_in, gaps_are, gaps_missing, gaps_apart}
use Rattle.binlog_gtids.proofs.gno_set.GnoSet.gaps.Goals as goal

pub returns-clause-missing : goal.returns-clause-missing
returns-clause-missing c = λ n.
    let is = c.self.inside.intervals.items in
    let are : c.loop-interval.gaps.items ≡ gaps_in 1 is = gaps_are is _ _ c.loop-interval.next c.loop-interval.interval-index c.deref-interval-items.ensures.value (omega arith) c.loop-interval.invariant in
    rw (← c.self.view_is, are) (gaps_missing is 0 1 n c.self.invariant (omega arith))

pub returns-clause-apart : goal.returns-clause-apart
returns-clause-apart c =
    let is = c.self.inside.intervals.items in
    let are : c.loop-interval.gaps.items ≡ gaps_in 1 is = gaps_are is _ _ c.loop-interval.next c.loop-interval.interval-index c.deref-interval-items.ensures.value (omega arith) c.loop-interval.invariant in
    rw are (gaps_apart is 0 1 0 c.self.invariant (omega arith) (omega arith))
