use Rattle.std.proofs.Common.{arith}
use Rattle.binlog_undo_items.proofs.Counts.{transactions_more}
use Rattle.binlog_undo_items.proofs.undoing.transactions_in.Goals as goal

pub loop-log-preserved : goal.loop-log-preserved
loop-log-preserved c =
    let more = transactions_more c.args.logs.now c.loop-log.log-index _ _ c.loop-log-test.true c.log-item.is in
    let added = rw (c.transactions.ensures, c.index.ensures) at c.saturating_add-count.ensures in
    omega (arith, more, added, c.loop-log.invariant)
