use Rattle.std.proofs.Common.{arith}
use Rattle.binlog_undo_items.proofs.Refused.{refusals_next}
use Rattle.binlog_undo_items.proofs.refusals.refusals_of.Goals as goal

pub loop-log-preserved : goal.loop-log-preserved
loop-log-preserved c = record {
  counted = omega (arith, c.loop-log.invariant.counted);
  all = refusals_next c.args.logs.now c.loop-log.log-index c.loop-log.number _ _ c.loop-log.all.items _ _ _ c.loop-log-test.true c.log-item.is c.loop-log.invariant.counted c.loop-log.invariant.all
      c.refusals.ensures c.index.ensures c.in_ok-add_refusals.ensures;
}
