use Rattle.std.proofs.lemmas.Result.{err_from_is_err_and, on_ok_weaker, IfErr-weaker}
use Rattle.binlog_undo_command.proofs.Scans.{failed_isnt_fine, failed_isnt_damaged, failed_isnt_usage}
use Rattle.binlog_undo_command.proofs.undoing.count_tables.Goals as goal

pub returns-in_err-scanned-clause-usage : goal.returns-in_err-scanned-clause-usage
returns-in_err-scanned-clause-usage g c =
    let p = err_from_is_err_and c.from_residual.result c.from_residual.ensures.1 in
    rw (p.1, p.2) c.in_err-scanned.ensures.usage

pub returns-clause-ok : goal.returns-clause-ok
returns-clause-ok g c = on_ok_weaker c.count_scanned.result
    (λ h. record {
      is_one = c.args.is_one;
      logs = c.in_ok-scanned.scanned.items;
      undone = c.in_ok-scanned.ensures.ok;
      stats = h.stats;
      rows = rw c.as_slice.ensures.value at h.rows;
      counts = rw c.as_slice.ensures.value at h.counts;
    })
    c.count_scanned.ensures.ok

pub returns-clause-err : goal.returns-clause-err
returns-clause-err g c = IfErr-weaker c.count_scanned.result _ _ (λ status failed. failed_isnt_fine status failed) c.count_scanned.ensures.err

pub returns-clause-silent : goal.returns-clause-silent
returns-clause-silent g c = IfErr-weaker c.count_scanned.result _ _ (λ status failed other. absurd (other failed)) c.count_scanned.ensures.err

pub returns-clause-refused : goal.returns-clause-refused
returns-clause-refused g c = IfErr-weaker c.count_scanned.result _ _ (λ status failed damaged. absurd (failed_isnt_damaged status failed damaged)) c.count_scanned.ensures.err

pub returns-clause-usage : goal.returns-clause-usage
returns-clause-usage g c = IfErr-weaker c.count_scanned.result _ _ (λ status failed usage. absurd (failed_isnt_usage status failed usage)) c.count_scanned.ensures.err
