use Rattle.std.proofs.Common.{◌≡◌, zero, arith}
use Rattle.binlog_undo_items.proofs.LogsWritten.{written_none, written_next}
use Rattle.binlog_undo_items.proofs.writing.write_logs.Goals as goal

pub logs-init : goal.logs-init
logs-init g c = record {
  within = omega arith;
  done = written_none g.W.WriteCounted.contents c.args.logs.now c.args.output.now;
}

pub logs-preserved : goal.logs-preserved
logs-preserved g c = record {
  within = omega arith;
  done = written_next g.W.WriteCounted.contents c.args.logs.now c.logs.left _ _ _ _ _ _ (omega arith) (omega arith) c.index-logs-left.is
      c.logs.invariant.done c.in_ok-write_one.ensures;
}

pub returns : goal.returns
returns g c =
    let none : c.logs.left ≡ zero = omega arith in
    rw none at c.logs.invariant.done
