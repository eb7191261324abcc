use Rattle.std.proofs.lemmas.Result.{err_from_is_err_and}
use Rattle.binlog_undo_items.proofs.Failures.{early_failure}
use Rattle.binlog_undo_items.proofs.undoing.write_undo_log.Goals as goal

pub returns-in_err-logs-clause-failed : goal.returns-in_err-logs-clause-failed
returns-in_err-logs-clause-failed c =
    let p = err_from_is_err_and c.from_residual.result c.from_residual.ensures.1 in
    rw (p.1, p.2) (early_failure c.args.request.now c.in_err-logs.field-0.0 _ _ c.in_err-logs.ensures.err)
