use Rattle.std.proofs.Common.{refl}
use Rattle.binlog_events.specs.EventRefs.{view_of}
use Rattle.binlog_undo_log.proofs.one_transaction.begin_by.Goals as goal

pub returns : goal.returns
returns g c = record {
  event = view_of c.in_ok-event.event;
  event_at = record { frame = c.in_ok-frame.frame; at = c.in_ok-frame.ensures.frame; is = c.in_ok-event.ensures.event; right = c.in_ok-event.ensures.checksum };
  header = c.header-header.ensures;
  reads = c.in_ok-xid.ensures;
  begun = c.push_begin.new.self;
  begins = c.in_ok-push_begin.ensures;
  is = refl;
}
