use Rattle.std.proofs.Common.{inl, inr, refl}
use Rattle.std.proofs.lemmas.Result.{err_from_is_err_and}
use Rattle.binlog_payload_visits.proofs.checked.CheckedVisitor.visit_event.Goals as goal

pub returns-in_err-visit_event-clause-err : goal.returns-in_err-visit_event-clause-err
returns-in_err-visit_event-clause-err g c =
    let p = err_from_is_err_and c.from_residual.result c.from_residual.ensures.1 in
    rw (p.1, p.2) (inl (record { refused = c.in_err-visit_event.ensures.err; damaged = refl; same = refl }))

pub returns-in_err-found-clause-err : goal.returns-in_err-found-clause-err
returns-in_err-found-clause-err g c =
    let p = err_from_is_err_and c.from_residual-in_err-found.result c.from_residual-in_err-found.ensures.1 in
    rw (p.1, p.2) (inr (record { memory = c.in_err-found.ensures.memory; does = c.in_ok-visit_event.ensures.ok; damaged = refl; same = refl }))
