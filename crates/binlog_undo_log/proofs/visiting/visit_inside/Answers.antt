use Rattle.std.proofs.Common.{◌≡◌, ◌∙◌, ap}
use Rattle.binlog_event_format.specs.DescriptionRefs.{description_of}
use Rattle.binlog_event_format.specs.declared.footer.BinlogEventFooter.{BinlogEventFooter}
use Rattle.binlog_event_format.specs.declared.format_description.FormatDescriptionEvent.{FormatDescriptionEvent}
use Rattle.binlog_events.specs.EventRefs.{view_of}
use Rattle.binlog_payloads.specs.Events.{payload_of}
use Rattle.binlog_payloads.specs.InnerEvents.{inner_fde}
use Rattle.binlog_undo_log.proofs.Visited.{content_visited}
use Rattle.binlog_undo_log.proofs.visiting.visit_inside.Goals as goal

pub returns-in-Ok : goal.returns-in-Ok
returns-in-Ok g c =
    content_visited g.V.RowsVisitor.visits (view_of c.args.event.now) c.args.changes.now (payload_of c.args.payload.now) c.in-Ok.content.items c.new-frames.result.bytes.now
    (description_of c.with_footer-fde.result) c.visit_changes.result c.args.visitor.now c.visit_changes.new.visitor c.requires c.in-Ok.ensures.found (c.new-frames.ensures ∙ c.as_slice.ensures.value)
    (c.with_footer-fde.ensures ∙ ap (λ (f : BinlogEventFooter). record (description_of c.fde.result) { footer = f }) c.default.ensures ∙ ap (λ (d : FormatDescriptionEvent). inner_fde d) c.fde.ensures) c.visit_changes.ensures.visited
