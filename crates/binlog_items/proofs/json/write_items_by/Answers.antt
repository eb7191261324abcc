use Rattle.std.proofs.Common.{◌∙◌, arith}
use Rattle.binlog_items.proofs.Lines.{same_item, one_written, all_written, no_room, next_refused}
use Rattle.binlog_items.proofs.json.write_items_by.Goals as goal

pub returns-in-Err : goal.returns-in-Err
returns-in-Err c =
    let counted = c.loop-item.invariant.counted in
    let there = c.loop-item-test.true in
    next_refused _ _ _ _ _ _ _ _ _ _ _ c.loop-item.invariant.written (omega (arith, counted, there)) (same_item c.args.items.now c.loop-item.count c.loop-item.item-index _ counted there)
    (rw c.loop-item.invariant.log at c.in-Err.ensures.refused)

pub loop-item-preserved : goal.loop-item-preserved
loop-item-preserved c =
    let counted = c.loop-item.invariant.counted in
    let there = c.loop-item-test.true in
    record {
      log = c.in-Ok.ensures.log ∙ c.loop-item.invariant.log;
      counted = omega (arith, counted);
      written = one_written _ _ _ _ _ _ _ _ _ _ _ _ _ c.loop-item.invariant.written (omega (arith, counted, there))
          (same_item c.args.items.now c.loop-item.count c.loop-item.item-index _ counted there) (rw c.loop-item.invariant.log at c.in-Ok.ensures.line) (omega (arith, c.if-line-text.false)) (omega arith)
          c.copy_from_slice.ensures.after;
    }

pub returns-then-line-text : goal.returns-then-line-text
returns-then-line-text c =
    let counted = c.loop-item.invariant.counted in
    let there = c.loop-item-test.true in
    no_room _ _ _ _ _ _ _ _ _ _ _ c.loop-item.invariant.written (omega (arith, counted, there)) (same_item c.args.items.now c.loop-item.count c.loop-item.item-index _ counted there)
    (rw c.loop-item.invariant.log at c.in-Ok.ensures.line) (omega (arith, c.if-line-text.true))

pub returns-after-loop-item : goal.returns-after-loop-item
returns-after-loop-item c =
    all_written _ _ _ _ _ _ _ _ _ c.loop-item.invariant.written (omega (arith, c.loop-item.invariant.counted, c.loop-item-test.false, c.loop-item.auto.item-index-end))
