use Rattle.std.proofs.Common.{◌≡◌, ◌∙◌, ap}
use Rattle.binlog_event_format.specs.DescriptionRefs.{description_of}
use Rattle.binlog_event_format.specs.declared.footer.BinlogEventFooter.{BinlogEventFooter}
use Rattle.binlog_event_format.specs.declared.format_description.FormatDescriptionEvent.{FormatDescriptionEvent}
use Rattle.binlog_events.specs.EventRefs.{view_of}
use Rattle.binlog_payloads.specs.Events.{payload_of}
use Rattle.binlog_payloads.specs.InnerEvents.{inner_fde}
use Rattle.binlog_undo_log.proofs.Passes.{inside_if}
use Rattle.binlog_undo_log.proofs.writing.write_inside.Goals as goal

pub returns-in-Ok : goal.returns-in-Ok
returns-in-Ok g c =
    inside_if g.W.WriteCounted.contents c.args.checks (view_of c.args.event.now) c.args.changes.now (payload_of c.args.payload.now) c.in-Ok.content.items c.new-frames.result.bytes.now
    (description_of c.with_footer-fde.result) c.write_changes.result c.args.output.now c.write_changes.new.output c.requires c.in-Ok.ensures.found (c.new-frames.ensures ∙ c.as_slice.ensures.value)
    (c.with_footer-fde.ensures ∙ ap (λ (f : BinlogEventFooter). record (description_of c.fde.result) { footer = f }) c.default.ensures ∙ ap (λ (d : FormatDescriptionEvent). inner_fde d) c.fde.ensures) c.write_changes.ensures.written
