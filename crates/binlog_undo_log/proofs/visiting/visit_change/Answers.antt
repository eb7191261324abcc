use Rattle.binlog_event_format.specs.DescriptionRefs.{description_of}
use Rattle.binlog_events.specs.EventRefs.{view_of}
use Rattle.binlog_undo_log.proofs.Visited.{change_visited}
use Rattle.binlog_undo_log.proofs.visiting.visit_change.Goals as goal

pub returns-clause-visited : goal.returns-clause-visited
returns-clause-visited g c =
    change_visited g.V.RowsVisitor.visits (g.F.Frames.is_at c.args.frames.now) (g.F.Frames.is_at c.frame_at.new.self) c.in_ok-map_frame.ensures.same (description_of c.args.fde) c.args.change
    c.in_ok-map_frame.map_frame c.in_ok-frame.frame (view_of c.in_ok-map_event.map_event) (view_of c.in_ok-event.event) c.visit_event.result c.args.visitor.now c.visit_event.new.visitor
    c.in_ok-map_frame.ensures.frame c.in_ok-frame.ensures.frame c.in_ok-map_event.ensures.event c.in_ok-map_event.ensures.checksum
    c.in_ok-event.ensures.event c.in_ok-event.ensures.checksum c.visit_event.ensures

pub returns-clause-same : goal.returns-clause-same
returns-clause-same g c = λ place frame h. c.in_ok-map_frame.ensures.same place frame (c.in_ok-frame.ensures.same place frame h)

pub returns-in_err-frame-clause-same : goal.returns-in_err-frame-clause-same
returns-in_err-frame-clause-same g c = λ place frame h. c.in_ok-map_frame.ensures.same place frame (c.in_err-frame.ensures.same place frame h)

pub returns-in_err-map_event-clause-same : goal.returns-in_err-map_event-clause-same
returns-in_err-map_event-clause-same g c = λ place frame h. c.in_ok-map_frame.ensures.same place frame (c.in_ok-frame.ensures.same place frame h)

pub returns-in_err-event-clause-same : goal.returns-in_err-event-clause-same
returns-in_err-event-clause-same g c = λ place frame h. c.in_ok-map_frame.ensures.same place frame (c.in_ok-frame.ensures.same place frame h)
