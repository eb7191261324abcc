use Rattle.std.proofs.lemmas.Result.{err_from_is_err_and}
use Rattle.binlog_file.specs.EventRefs.{view_of}
use Rattle.binlog_file.specs.Files.{verification_of}
use Rattle.examples.proofs.Steps.{event_refused}
use Rattle.examples.proofs.copying.copy_next.Goals as goal

pub returns-in_err-write-clause-copies : goal.returns-in_err-write-clause-copies
returns-in_err-write-clause-copies g c =
    let p = err_from_is_err_and c.from_residual-in_err-write.result c.from_residual-in_err-write.ensures.1 in
    let next = rw (c.in-Some.is, c.in_ok-item.was) at c.next_ref.follows.holds-at-none in
    rw (p.1, p.2) (event_refused (g.V.Verification.handles (verification_of c.args.file.now)) _ _ _ _ (view_of c.in_ok-item.field-0) _ next.gives c.in_err-write.ensures.refused)
