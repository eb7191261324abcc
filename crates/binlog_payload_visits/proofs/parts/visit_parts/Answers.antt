use Rattle.std.proofs.Common.{◌≡◌, Option, Ok, sym, subst}
use Rattle.binlog_event_format.specs.DescriptionRefs.{description_of}
use Rattle.binlog_events.specs.EventRefs.{view_of}
use Rattle.binlog_payloads.specs.Events.{found_in, payload_in, payload_of}
use Rattle.binlog_payloads.specs.declared.event.TransactionPayloadEvent.{TransactionPayloadEvent}
use Rattle.binlog_payload_visits.proofs.VisitedParts.{visits_payload, visits_event_refusal}
use Rattle.binlog_payload_visits.proofs.parts.visit_parts.Goals as goal

pub returns-in-Ok-Some-clause-visits : goal.returns-in-Ok-Some-clause-visits
returns-in-Ok-Some-clause-visits g c =
    visits_payload g.T.PartVisitor.visits_part g.T.PartVisitor.refuses_part c.args.limit (view_of c.args.event.now) (description_of c.fde.result) (payload_of c.in-Ok-Some.payload) c.args.index c.args.visitor.now
    c.visit_payload.result c.visit_payload.new.visitor (sym (subst (λ (o : Option TransactionPayloadEvent). found_in (Ok o) ≡ payload_in (view_of c.args.event.now)) c.in-Ok-Some.field-0-is c.in-Ok-Some.ensures)) c.fde.ensures c.visit_payload.ensures.visits

pub returns-in-Err-clause-visits : goal.returns-in-Err-clause-visits
returns-in-Err-clause-visits g c =
    visits_event_refusal g.T.PartVisitor.visits_part g.T.PartVisitor.refuses_part c.args.limit (view_of c.args.event.now) c.in-Err.error c.args.index c.args.visitor.now c.visit_refusal.result c.visit_refusal.new.visitor
    (sym c.in-Err.ensures) c.visit_refusal.ensures.visits
