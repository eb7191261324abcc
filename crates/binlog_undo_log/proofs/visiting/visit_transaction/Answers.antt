use Rattle.binlog_event_format.specs.DescriptionRefs.{description_of}
use Rattle.binlog_events.specs.EventRefs.{view_of}
use Rattle.binlog_undo_log.proofs.Visited.{transaction_visited}
use Rattle.binlog_undo_log.proofs.visiting.visit_transaction.Goals as goal

pub returns-clause-visited : goal.returns-clause-visited
returns-clause-visited g c =
    transaction_visited g.V.RowsVisitor.visits (g.F.Frames.is_at c.args.frames.now) (g.F.Frames.is_at c.frame_at.new.self) c.in_ok-frame.ensures.same (description_of c.args.fde)
    c.visit_own.result c.args.last c.args.changes.now c.in_ok-frame.frame (view_of c.in_ok-event.event) c.args.visitor.now c.visit_own.new.visitor c.in_ok-frame.ensures.frame
    c.in_ok-event.ensures.event c.in_ok-event.ensures.checksum c.visit_own.ensures.visited

pub returns-clause-same : goal.returns-clause-same
returns-clause-same g c = λ place frame h. c.in_ok-frame.ensures.same place frame (c.visit_own.ensures.same place frame h)
