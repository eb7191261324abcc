use Rattle.binlog_event_format.specs.DescriptionRefs.{description_of}
use Rattle.binlog_events.specs.EventRefs.{view_of}
use Rattle.binlog_undo_log.proofs.Passes.{transaction_if}
use Rattle.binlog_undo_log.proofs.writing.write_transaction.Goals as goal

pub returns-clause-written : goal.returns-clause-written
returns-clause-written g c =
    transaction_if g.W.WriteCounted.contents (g.F.Frames.is_at c.args.frames.now) (g.F.Frames.is_at c.frame_at.new.self) c.in_ok-frame.ensures.same (description_of c.args.fde) c.args.checks
    c.commit.result c.args.last c.args.changes.now c.in_ok-frame.frame (view_of c.in_ok-event.event) c.header-header.result c.in_ok-xid.xid c.args.output.now c.begin.new.self
    c.write_own.new.output c.commit.new.self c.in_ok-frame.ensures.frame c.in_ok-event.ensures.event c.in_ok-event.ensures.checksum c.header-header.ensures
    c.in_ok-xid.ensures c.in_ok-begin.ensures c.in_ok-write_own.ensures.written c.commit.ensures

pub returns-clause-same : goal.returns-clause-same
returns-clause-same g c = λ place frame h. c.in_ok-frame.ensures.same place frame (c.in_ok-write_own.ensures.same place frame h)
