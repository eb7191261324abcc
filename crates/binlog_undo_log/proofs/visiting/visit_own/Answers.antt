use Rattle.std.proofs.Common.{◌≡◌, Option, Ok, sym, subst}
use Rattle.binlog_event_format.specs.DescriptionRefs.{description_of}
use Rattle.binlog_events.specs.EventRefs.{view_of}
use Rattle.binlog_payloads.specs.Events.{found_in, payload_in}
use Rattle.binlog_payloads.specs.declared.event.TransactionPayloadEvent.{TransactionPayloadEvent}
use Rattle.binlog_undo_log.proofs.Visited.{outside_visited, inside_visited}
use Rattle.binlog_undo_log.proofs.visiting.visit_own.Goals as goal

pub returns-in-Ok-None-clause-visited : goal.returns-in-Ok-None-clause-visited
returns-in-Ok-None-clause-visited g c =
    outside_visited g.V.RowsVisitor.visits (view_of c.args.event.now) c.args.changes.now (g.F.Frames.is_at c.args.frames.now) (description_of c.args.fde) c.visit_changes.result
    c.args.visitor.now c.visit_changes.new.visitor
    (sym (subst (λ (o : Option TransactionPayloadEvent). found_in (Ok o) ≡ payload_in (view_of c.args.event.now)) c.in-Ok-None.field-0-is c.in-Ok-None.ensures)) c.visit_changes.ensures.visited

pub returns-in-Ok-Some-clause-visited : goal.returns-in-Ok-Some-clause-visited
returns-in-Ok-Some-clause-visited g c =
    inside_visited g.V.RowsVisitor.visits (view_of c.args.event.now) c.args.changes.now (g.F.Frames.is_at c.args.frames.now) (description_of c.args.fde) c.visit_inside.result
    c.args.visitor.now c.visit_inside.new.visitor c.visit_inside.ensures
