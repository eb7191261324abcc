use Rattle.std.proofs.Common.{inl, refl}
use Rattle.std.proofs.lemmas.Result.{err_from_is_err_and}
use Rattle.binlog_commands.proofs.file_gtids.FileGtidsVisitor.visit_error.Goals as goal

pub returns-in_err-visit_error-clause-err : goal.returns-in_err-visit_error-clause-err
returns-in_err-visit_error-clause-err c =
    let p = err_from_is_err_and c.from_residual.result c.from_residual.ensures.1 in
    rw (p.1, p.2) (inl (record { refused = c.in_err-visit_error.ensures.err; marks = refl; same = refl }))
