use Rattle.std.proofs.lemmas.Result.{IfOk-weaker}
use Rattle.binlog_event_format.specs.DescriptionRefs.{description_of}
use Rattle.binlog_events.specs.EventRefs.{view_of}
use Rattle.binlog_undo_log.proofs.OneTransaction.{begun_under}
use Rattle.binlog_undo_log.proofs.one_transaction.begin_under.Goals as goal

pub returns : goal.returns
returns g c =
    IfOk-weaker c.begin_by.result _ _
    (λ commit h. begun_under g.W.WriteCounted.contents (g.F.Frames.is_at c.args.frames.now) (g.F.Frames.is_at c.frame_at.new.self) c.in_ok-frame.ensures.same c.args.place c.args.last commit
    c.in_ok-frame.frame (description_of c.new.result) (view_of c.in_ok-event.event) (description_of c.in_ok-fde.fde) c.header.result c.args.output.now c.describe.new.self c.begin_by.new.output
    c.in_ok-frame.ensures.frame c.new.ensures c.in_ok-event.ensures.event c.in_ok-event.ensures.checksum c.in_ok-fde.ensures c.header.ensures c.in_ok-describe.ensures h)
    c.begin_by.ensures
