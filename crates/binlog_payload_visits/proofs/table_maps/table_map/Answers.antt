use Rattle.binlog_event_format.specs.DescriptionRefs.{description_of}
use Rattle.binlog_events.specs.EventRefs.{view_of}
use Rattle.binlog_payload_visits.proofs.PartMaps.{map_reads}
use Rattle.binlog_payload_visits.proofs.table_maps.table_map.Goals as goal

pub returns : goal.returns
returns c = map_reads c.read.result c.read.new.buf c.data.result.now (description_of c.fde.result) (view_of c.args.event.now) c.fde.ensures c.data.ensures c.read.ensures
