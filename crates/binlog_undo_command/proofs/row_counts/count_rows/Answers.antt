use Rattle.std.proofs.Common.{◌≡◌, zero, arith}
use Rattle.binlog_undo_command.proofs.RowCounts.{counted_none, counted_next}
use Rattle.binlog_undo_command.proofs.row_counts.count_rows.Goals as goal

pub logs-init : goal.logs-init
logs-init g c = record {
  within = omega arith;
  done = (c.new-rows.result.counter.stats, c.new-rows.ensures, counted_none (g.L.Logs.has_frames c.args.logs.now) g.L.Sought.Frames.is_at c.args.scanned.now c.new-rows.result.counter.stats);
}

pub logs-preserved : goal.logs-preserved
logs-preserved g c =
    let done = c.logs.invariant.done in
    record {
      within = omega arith;
      done = (
        done.0,
        done.1,
        counted_next (g.L.Logs.has_frames c.args.logs.now) g.L.Sought.Frames.is_at c.args.scanned.now c.logs.left _ _ _ done.0 _ _ (omega arith) (omega arith) c.index-scanned-left.is
            done.2 c.in_ok-count_log.ensures.ok,
      );
    }

pub returns-clause-ok : goal.returns-clause-ok
returns-clause-ok g c =
    let none : c.logs.left ≡ zero = omega arith in
    let done = rw none at c.logs.invariant.done in
    record { none = done.0; empty = done.1; counts = done.2; room = rw c.stats.ensures at c.if-stats.false }
