use Rattle.binlog_undo_items.proofs.Refused.{skipped_next, skipped_at}
use Rattle.binlog_undo_items.proofs.refusals.are_all_skipped.Goals as goal

pub loop-log-preserved : goal.loop-log-preserved
loop-log-preserved c =
    skipped_next c.args.logs.now c.loop-log.log-index _ _ _ _ c.loop-log-test.true c.log-item.is c.refusals.ensures c.index.ensures c.loop-log.invariant
    (c.are_skipped.ensures.skipped c.if-not-are_skipped.false)

pub returns-then-not-are_skipped-clause-refused : goal.returns-then-not-are_skipped-clause-refused
returns-then-not-are_skipped-clause-refused c = λ _ all.
    c.are_skipped.ensures.refused c.if-not-are_skipped.true
    (skipped_at c.args.logs.now c.loop-log.log-index _ _ _ _ c.loop-log-test.true c.log-item.is c.refusals.ensures c.index.ensures all)
