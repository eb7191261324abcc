use Rattle.std.proofs.Common.{◌≡◌, rules}
use Rattle.binlog_event_format.specs.Headers.{header_of}
use Rattle.binlog_events.specs.EventRefs.{view_of}
use Rattle.binlog_gtid_listing.proofs.MariaAdded.{adds_unknown, adds_unread, adds_data}
use Rattle.binlog_gtid_listing.proofs.maria_adding.add_maria_gtids.Goals as goal

pub returns-in-Ok-Some : goal.returns-in-Ok-Some
returns-in-Ok-Some c =
    let server : c.server_id.result ≡ (header_of (view_of c.args.event.now).frame).server_id = search rules in
    adds_data (view_of c.args.event.now) c.in-Ok-Some.data _ _ _ (rw c.in-Ok-Some.field-0-is at c.in-Ok-Some.ensures) (rw server at c.add_event-added.ensures.ok) c.add_event-added.ensures.err c.add_event-added.ensures.memory

pub returns-in-Ok-None : goal.returns-in-Ok-None
returns-in-Ok-None c = adds_unknown (view_of c.args.event.now) c.args.gtids.now (rw c.in-Ok-None.field-0-is at c.in-Ok-None.ensures)

pub returns-in-Err : goal.returns-in-Err
returns-in-Err c = adds_unread (view_of c.args.event.now) c.args.gtids.now c.in-Err.error c.in-Err.ensures
