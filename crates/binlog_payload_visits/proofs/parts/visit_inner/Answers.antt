use Rattle.std.proofs.Common.{Option, subst}
use Rattle.binlog_wire.specs.declared.error.Error.{Error}
use Rattle.binlog_events.specs.EventRefs.{view_of}
use Rattle.binlog_payload_visits.specs.PartMaps.{Follows, maps_of}
use Rattle.binlog_payload_visits.proofs.VisitedParts.{visited_event, visited_refused}
use Rattle.binlog_payload_visits.proofs.parts.visit_inner.Goals as goal

pub returns-in-Ok-None-clause-visits : goal.returns-in-Ok-None-clause-visits
returns-in-Ok-None-clause-visits g c =
    rw c.answered.ensures
    (visited_event g.T.PartVisitor.visits_part g.T.PartVisitor.refuses_part c.args.index c.args.number (view_of c.args.event.now) (maps_of c.args.maps.now) (maps_of c.follow.new.self) c.args.visitor.now
    c.visit_part.result c.visit_part.new.self (subst (λ (o : Option Error). Follows o (view_of c.args.event.now) (maps_of c.args.maps.now) (maps_of c.follow.new.self)) c.in-Ok-None.field-0-is c.in-Ok-None.ensures) c.visit_part.ensures.ok c.visit_part.ensures.err)

pub returns-in-Ok-Some-clause-visits : goal.returns-in-Ok-Some-clause-visits
returns-in-Ok-Some-clause-visits g c =
    rw c.answered-in-Ok-Some.ensures
    (visited_refused g.T.PartVisitor.visits_part g.T.PartVisitor.refuses_part c.args.index c.args.number (view_of c.args.event.now) c.in-Ok-Some.error (maps_of c.args.maps.now) (maps_of c.follow.new.self) c.args.visitor.now
    c.visit_part_error.result c.visit_part_error.new.self (subst (λ (o : Option Error). Follows o (view_of c.args.event.now) (maps_of c.args.maps.now) (maps_of c.follow.new.self)) c.in-Ok-Some.field-0-is c.in-Ok-Some.ensures) c.visit_part_error.ensures.ok c.visit_part_error.ensures.err)
