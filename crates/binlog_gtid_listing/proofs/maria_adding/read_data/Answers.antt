use Rattle.std.proofs.Common.{◌≡◌, rules}
use Rattle.binlog_event_format.specs.Headers.{header_of}
use Rattle.binlog_event_format.specs.DescriptionRefs.{description_of}
use Rattle.binlog_events.specs.EventRefs.{view_of}
use Rattle.binlog_events.specs.Parts.{data_of}
use Rattle.binlog_gtid_listing.proofs.maria_adding.read_data.Goals as goal

pub returns : goal.returns
returns c =
    let event = view_of c.args.event.now in
    let fde : description_of c.fde.result ≡ event.fde = search rules in
    let type : c.event_type_raw-number.result ≡ (header_of event.frame).event_type = search rules in
    let part : c.data.result.now ≡ data_of event.fde.footer event.frame = search rules in
    rw (fde, type, part) at c.read_maria_data.ensures
