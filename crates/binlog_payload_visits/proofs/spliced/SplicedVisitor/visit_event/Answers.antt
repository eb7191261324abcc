use Rattle.std.proofs.Common.{inl, refl}
use Rattle.std.proofs.lemmas.Result.{err_from_is_err_and}
use Rattle.binlog_events.specs.EventRefs.{view_of}
use Rattle.binlog_payload_visits.proofs.VisitedParts.{refused_inside}
use Rattle.binlog_payload_visits.proofs.spliced.SplicedVisitor.visit_event.Goals as goal

pub returns-in_err-visit_event-clause-err : goal.returns-in_err-visit_event-clause-err
returns-in_err-visit_event-clause-err g c =
    let p = err_from_is_err_and c.from_residual.result c.from_residual.ensures.1 in
    rw (p.1, p.2) (inl c.in_err-visit_event.ensures.err, refl)

pub returns-clause-err : goal.returns-clause-err
returns-clause-err g c =
    refused_inside g.T.Visitor.visits g.T.PartVisitor.visits_part g.T.Visitor.refuses g.T.PartVisitor.refuses_part c.visit_parts.result c.args.self.now.limit c.args.self.now.visitor c.visit_event.new.self _ c.args.index
    (view_of c.args.event.now) c.visit_parts.new.visitor c.in_ok-visit_event.ensures.ok c.visit_parts.ensures.visits
