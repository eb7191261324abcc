use Rattle.std.proofs.Common.{◌≡◌, Option, Ok, sym, subst}
use Rattle.binlog_event_format.specs.DescriptionRefs.{description_of}
use Rattle.binlog_events.specs.EventRefs.{view_of}
use Rattle.binlog_payloads.specs.Events.{found_in, payload_in}
use Rattle.binlog_payloads.specs.declared.event.TransactionPayloadEvent.{TransactionPayloadEvent}
use Rattle.binlog_undo_log.proofs.Passes.{own_outside, own_inside}
use Rattle.binlog_undo_log.proofs.writing.write_own.Goals as goal

pub returns-in-Ok-None-clause-written : goal.returns-in-Ok-None-clause-written
returns-in-Ok-None-clause-written g c =
    own_outside g.W.WriteCounted.contents c.args.checks (view_of c.args.event.now) c.args.changes.now (g.F.Frames.is_at c.args.frames.now) (description_of c.args.fde) c.write_changes.result
    c.args.output.now c.write_changes.new.output
    (sym (subst (λ (o : Option TransactionPayloadEvent). found_in (Ok o) ≡ payload_in (view_of c.args.event.now)) c.in-Ok-None.field-0-is c.in-Ok-None.ensures)) c.write_changes.ensures.written

pub returns-in-Ok-Some-clause-written : goal.returns-in-Ok-Some-clause-written
returns-in-Ok-Some-clause-written g c =
    own_inside g.W.WriteCounted.contents c.args.checks (view_of c.args.event.now) c.args.changes.now (g.F.Frames.is_at c.args.frames.now) (description_of c.args.fde) c.write_inside.result
    c.args.output.now c.write_inside.new.output c.write_inside.ensures
