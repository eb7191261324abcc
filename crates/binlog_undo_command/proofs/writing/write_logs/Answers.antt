use Rattle.std.proofs.Common.{◌≡◌, zero, arith}
use Rattle.binlog_undo_command.proofs.LogsWritten.{written_none, written_next}
use Rattle.binlog_undo_command.proofs.writing.write_logs.Goals as goal

pub logs-init : goal.logs-init
logs-init g c = record {
  within = omega arith;
  done = written_none (g.L.Logs.has_frames c.args.logs.now) g.L.Sought.Frames.is_at g.W.WriteCounted.contents c.args.scanned.now c.args.output.now;
}

pub logs-preserved : goal.logs-preserved
logs-preserved g c = record {
  within = omega arith;
  done = written_next (g.L.Logs.has_frames c.args.logs.now) g.L.Sought.Frames.is_at g.W.WriteCounted.contents c.args.scanned.now c.logs.left _ _ _ _ _ _ (omega arith) (omega arith) c.index-scanned-left.is
      c.logs.invariant.done c.in_ok-write_one.ensures;
}

pub returns : goal.returns
returns g c =
    let none : c.logs.left ≡ zero = omega arith in
    rw none at c.logs.invariant.done
