use Rattle.std.proofs.Common.{Some, Result, Err, refl, subst}
use Rattle.binlog_events.specs.EventRefs.{view_of}
use Rattle.binlog_events.specs.declared.event_ref.EventRef.{EventRef}
use Rattle.binlog_payloads.specs.declared.error.PayloadError.{PayloadError}
use Rattle.binlog_payloads.specs.InnerEvents.{AnswersItem, answer_seen, reader_fde}
use Rattle.binlog_file.specs.Items.{checked_event}
use Rattle.binlog_payload_visits.specs.PartMaps.{maps_of}
use Rattle.binlog_payload_visits.specs.Parts.{part_of}
use Rattle.binlog_payload_visits.specs.Stepping.{answered}
use Rattle.binlog_payload_visits.proofs.PartLists.{next_event, next_error}
use Rattle.binlog_payload_visits.proofs.VisitedParts.{steps_over, visited_part}
use Rattle.binlog_payload_visits.proofs.parts.visit_next.Goals as goal

pub returns-in-Some-Ok-clause-steps : goal.returns-in-Some-Ok-clause-steps
returns-in-Some-Ok-clause-steps g c =
    let next = next_event c.args.reader.now c.next.new.self (view_of c.in-Some-Ok.event) (subst (λ (x : Result EventRef PayloadError). AnswersItem (reader_fde c.args.reader.now) c.args.reader.now.is_ended (answer_seen (Some x)) c.args.reader.now.rest.now c.next.new.self.rest.now c.next.new.self.is_ended) c.in-Some-Ok.field-0-is c.in-Some-Ok.ensures.steps.gives) c.next.ensures.steps.fde in
    steps_over g.T.PartVisitor.visits_part g.T.PartVisitor.refuses_part c.args.index c.args.number c.args.reader.now c.next.new.self (part_of (checked_event (view_of c.in-Some-Ok.event))) (maps_of c.args.maps.now)
    (maps_of c.visit_inner.new.maps) c.args.visitor.now c.visit_inner.result c.visit_inner.new.visitor next c.visit_inner.ensures.visits

pub returns-in-Some-Err-clause-steps : goal.returns-in-Some-Err-clause-steps
returns-in-Some-Err-clause-steps g c =
    let maps = maps_of c.args.maps.now in
    let e = c.in-Some-Err.error in
    let next = next_error c.args.reader.now c.next.new.self e (subst (λ (x : Result EventRef PayloadError). AnswersItem (reader_fde c.args.reader.now) c.args.reader.now.is_ended (answer_seen (Some x)) c.args.reader.now.rest.now c.next.new.self.rest.now c.next.new.self.is_ended) c.in-Some-Err.field-0-is c.in-Some-Err.ensures.steps.gives) in
    let visited = visited_part g.T.PartVisitor.visits_part g.T.PartVisitor.refuses_part c.args.index c.args.number (Err e) maps maps c.args.visitor.now c.visit_part_error.result c.visit_part_error.new.self refl
    c.visit_part_error.ensures.ok c.visit_part_error.ensures.err in
    rw c.answered.ensures
    (steps_over g.T.PartVisitor.visits_part g.T.PartVisitor.refuses_part c.args.index c.args.number c.args.reader.now c.next.new.self (Err e) maps maps c.args.visitor.now (answered c.visit_part_error.result)
    c.visit_part_error.new.self next visited)
