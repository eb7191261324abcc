use Rattle.std.proofs.Common.{◌≡◌, arith, inl, inr, length, refl, sym}
use Rattle.std.proofs.lemmas.Result.{err_from_is_err_and}
use Rattle.binlog_undo_items.proofs.Scans.{bytes_next, counted_next, none_at, scanned_next}
use Rattle.binlog_undo_items.proofs.scanning.scan_logs.Goals as goal

pub returns-in_err-scan_log-clause-err : goal.returns-in_err-scan_log-clause-err
returns-in_err-scan_log-clause-err c =
    let p = err_from_is_err_and c.from_residual-in_err-scan_log.result c.from_residual-in_err-scan_log.ensures.1 in
    rw (p.1, p.2)
    (inr (inl (none_at c.args.logs.now c.logs.index _ c.in_err-scan_log.field-0.0 c.logs-test.true c.in_err-scan_log.ensures.err)))

pub logs-preserved : goal.logs-preserved
logs-preserved c =
    let more = rw (c.is_err.ensures.negation, c.if-is_err.false) at c.push.ensures.items in
    record {
      within = omega arith;
      counted = counted_next c.logs.scanned.items c.push.new.self.items _ c.logs.index c.logs.invariant.counted more;
      bytes = bytes_next c.args.logs.now c.logs.index _ c.logs.scanned.items c.push.new.self.items _ c.logs-test.true c.logs.invariant.bytes refl more;
      scanned = scanned_next c.args.request.now (length c.args.logs.now) c.logs.index c.logs.scanned.items c.push.new.self.items _ c.logs.invariant.scanned (sym c.logs.invariant.counted)
          (record { start = c.in_ok-scan.scan; states = c.in_ok-scan.ensures.ok; scans = c.in_ok-scan_log.ensures.ok }) more;
    }
