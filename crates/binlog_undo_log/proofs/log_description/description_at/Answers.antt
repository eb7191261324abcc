use Rattle.std.proofs.Common.{◌≡◌, Some, subst}
use Rattle.binlog_event_format.specs.DescriptionRefs.{description_of}
use Rattle.binlog_event_format.specs.declared.format_description.FormatDescriptionEvent.{FormatDescriptionEvent}
use Rattle.binlog_events.specs.EventRefs.{view_of}
use Rattle.binlog_events.specs.Events.{event_at}
use Rattle.binlog_undo_log.proofs.log_description.description_at.Goals as goal

pub returns : goal.returns
returns g c = record {
  event = view_of c.in_ok-event.event;
  event_at = record {
    frame = c.in_ok-frame.frame;
    at = c.in_ok-frame.ensures.frame;
    is = subst (λ (f : FormatDescriptionEvent). event_at f c.in_ok-frame.frame ≡ Some (view_of c.in_ok-event.event)) c.new.ensures c.in_ok-event.ensures.event;
    right = c.in_ok-event.ensures.checksum;
  };
  d = description_of c.in_ok-fde.fde;
  described = c.in_ok-fde.ensures;
  body_is = c.in_ok-body.ensures;
  checksums = c.has_checksums.ensures;
}
