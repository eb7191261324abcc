use Rattle.std.proofs.Common.{◌≡◌, ◌-◌, zero, arith, refl, subst}
use Rattle.binlog_undo_command.specs.Descriptions.{HasNone}
use Rattle.binlog_undo_command.specs.declared.scanning.ScannedLog.{ScannedLog}
use Rattle.binlog_undo_command.proofs.LogsWritten.{none_behind, none_in, none_next, begun_by}
use Rattle.binlog_undo_command.proofs.writing.begin_logs.Goals as goal

pub logs-init : goal.logs-init
logs-init g c = record {
  within = omega arith;
  none = none_behind c.args.scanned.now;
  same = refl;
}

pub logs-preserved : goal.logs-preserved
logs-preserved g c =
    let log : ScannedLog = c.index-scanned-left.result in
    record {
      within = omega arith;
      none = none_next c.args.scanned.now c.logs.left (c.logs.left - 1) log (omega arith) (omega arith)
          (subst HasNone c.index-scanned-left.is (none_in log c.index.result.now c.transactions.result.now c.is_empty.result c.index.ensures c.transactions.ensures c.is_empty.ensures c.if-not-is_empty.false))
          c.logs.invariant.none;
      same = c.logs.invariant.same;
    }

pub returns-then-not-is_empty : goal.returns-then-not-is_empty
returns-then-not-is_empty g c =
    begun_by (g.L.Logs.has_frames c.args.logs.now) g.L.Sought.Frames.is_at g.W.WriteCounted.contents c.args.scanned.now c.logs.left (c.logs.left - 1) c.index-scanned-left.result c.index-scanned-left.result
    c.in_ok-begin_log.field-0 c.args.output.now c.begin_log.new.output (omega arith) (omega arith) c.index-scanned-left.is c.logs.invariant.none (rw c.logs.invariant.same at c.in_ok-begin_log.ensures)

pub returns : goal.returns
returns g c =
    let none : c.logs.left ≡ zero = omega arith in
    (rw none at c.logs.invariant.none, c.logs.invariant.same)
