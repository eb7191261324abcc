use Rattle.std.proofs.Common.{◌-◌, arith}
use Rattle.binlog_undo_items.proofs.LogsWritten.{kept_next, last_found}
use Rattle.binlog_undo_items.proofs.writing.last_undone.Goals as goal

pub logs-preserved : goal.logs-preserved
logs-preserved c = record {
  within = omega (arith, c.logs.invariant.within);
  kept = kept_next c.args.logs.now c.logs.left (c.logs.left - 1) c.index-logs-left.result (omega arith) (omega (arith, c.logs.invariant.within)) c.transactions.result.now c.index.result.now
      c.transactions.ensures c.index.ensures c.logs.invariant.kept c.is_empty.result c.is_empty.ensures c.if-not-is_empty.false;
}

pub returns-then-not-is_empty : goal.returns-then-not-is_empty
returns-then-not-is_empty c =
    last_found c.args.logs.now c.logs.left (c.logs.left - 1) c.index-logs-left.result (omega arith) (omega (arith, c.logs.invariant.within)) c.transactions.result.now c.index.result.now
    c.transactions.ensures c.index.ensures c.logs.invariant.kept c.is_empty.result c.index-logs-left-then-not-is_empty.result _ c.is_empty.ensures c.if-not-is_empty.true
    c.index-logs-left-then-not-is_empty.is
