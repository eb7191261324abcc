use Rattle.binlog_events.specs.EventRefs.{view_of}
use Rattle.binlog_payload_visits.proofs.PartMaps.{position_found, position_refused}
use Rattle.binlog_payload_visits.proofs.table_maps.position.Goals as goal

pub returns-in-Ok : goal.returns-in-Ok
returns-in-Ok c = position_found c.in-Ok.rotate c.position.result c.read.new.buf c.data.result.now (view_of c.args.event.now) c.data.ensures c.in-Ok.ensures c.position.ensures

pub returns-in-Err : goal.returns-in-Err
returns-in-Err c = position_refused c.in-Err.error c.read.new.buf c.data.result.now (view_of c.args.event.now) c.data.ensures c.in-Err.ensures
