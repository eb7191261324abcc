use Rattle.std.proofs.Common.{◌≡◌, ◌∙◌, Bool, true, false, ap, subst}
use Rattle.std.specs.Arc.{arc_value}
use Rattle.binlog_event_format.specs.declared.format_description.FormatDescriptionEvent.{FormatDescriptionEvent}
use Rattle.binlog_events.specs.EventRefs.{view_of}
use Rattle.binlog_payloads.specs.InnerEvents.{inner_fde}
use Rattle.binlog_undo_log.proofs.Contents.{content_ended, content_damaged}
use Rattle.binlog_undo_log.specs.Contents.{ScansEvents, in_front}
use Rattle.binlog_undo_log.proofs.scan.UndoScan.scan_content.Goals as goal

pub scan_events-requires : goal.scan_events-requires
scan_events-requires c = ap (λ (d : FormatDescriptionEvent). d.footer) c.in-Ok.ensures.ok

pub returns-then-is_whole-clause-ok : goal.returns-then-is_whole-clause-ok
returns-then-is_whole-clause-ok c =
    content_ended c.end_content.result c.args.index (view_of c.args.event.now) c.args.content.now (arc_value c.in-Ok.fde) c.span_of-span.result c.args.self.now c.scan_events.new.self c.end_content.new.self
    (c.in-Ok.ensures.ok ∙ ap (λ (d : FormatDescriptionEvent). inner_fde d) c.fde.ensures) c.span_of-span.ensures
    (subst (λ (b : Bool). ScansEvents b c.span_of-span.result c.args.index (arc_value c.in-Ok.fde) c.args.content.now (in_front c.args.self.now) c.scan_events.new.self) c.if-is_whole.true c.in_ok-is_whole.ensures.ok)
    c.end_content.ensures.ok

pub returns-clause-ok : goal.returns-clause-ok
returns-clause-ok c =
    content_damaged c.stop.result c.args.index (view_of c.args.event.now) c.args.content.now (arc_value c.in-Ok.fde) c.span_of-span.result c.args.self.now c.scan_events.new.self c.stop.new.self
    (c.in-Ok.ensures.ok ∙ ap (λ (d : FormatDescriptionEvent). inner_fde d) c.fde.ensures) c.span_of-span.ensures
    (subst (λ (b : Bool). ScansEvents b c.span_of-span.result c.args.index (arc_value c.in-Ok.fde) c.args.content.now (in_front c.args.self.now) c.scan_events.new.self) c.if-is_whole.false c.in_ok-is_whole.ensures.ok)
    c.stop.ensures.ok
