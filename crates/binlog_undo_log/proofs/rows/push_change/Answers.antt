use Rattle.binlog_event_format.specs.DescriptionRefs.{description_of}
use Rattle.binlog_events.specs.EventRefs.{view_of}
use Rattle.binlog_undo_log.proofs.ReadEvents.{change_if}
use Rattle.binlog_undo_log.proofs.rows.push_change.Goals as goal

pub returns-clause-written : goal.returns-clause-written
returns-clause-written g c =
    change_if c.push_events.result (g.F.Frames.is_at c.args.frames.now) (g.F.Frames.is_at c.frame_at.new.self) (description_of c.args.fde) c.args.checks c.args.change
    c.in_ok-map_frame.map_frame c.in_ok-frame.frame (view_of c.in_ok-map_event.map_event) (view_of c.in_ok-event.event) c.args.writer.now c.push_events.new.writer
    c.in_ok-map_frame.ensures.same c.in_ok-map_frame.ensures.frame c.in_ok-frame.ensures.frame c.in_ok-map_event.ensures.event c.in_ok-map_event.ensures.checksum
    c.in_ok-event.ensures.event c.in_ok-event.ensures.checksum c.push_events.ensures

pub returns-clause-same : goal.returns-clause-same
returns-clause-same g c = λ place frame h. c.in_ok-map_frame.ensures.same place frame (c.in_ok-frame.ensures.same place frame h)

pub returns-in_err-frame-clause-same : goal.returns-in_err-frame-clause-same
returns-in_err-frame-clause-same g c = λ place frame h. c.in_ok-map_frame.ensures.same place frame (c.in_err-frame.ensures.same place frame h)

pub returns-in_err-map_event-clause-same : goal.returns-in_err-map_event-clause-same
returns-in_err-map_event-clause-same g c = λ place frame h. c.in_ok-map_frame.ensures.same place frame (c.in_ok-frame.ensures.same place frame h)

pub returns-in_err-event-clause-same : goal.returns-in_err-event-clause-same
returns-in_err-event-clause-same g c = λ place frame h. c.in_ok-map_frame.ensures.same place frame (c.in_ok-frame.ensures.same place frame h)
