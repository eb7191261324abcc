use Rattle.std.proofs.Common.{◌≡◌, Ok, Some, rules}
use Rattle.binlog_event_data.specs.declared.event_data.EventData.TheVariants as mysql
use Rattle.binlog_events.specs.EventRefs.{view_of}
use Rattle.binlog_undo_log.proofs.ReadEvents.{read_event_if}
use Rattle.binlog_undo_log.proofs.rows.push_read_event.Goals as goal

pub returns-in-Ok-Some-RowsEvent : goal.returns-in-Ok-Some-RowsEvent
returns-in-Ok-Some-RowsEvent c =
    let is : c.args.read.now ≡ Ok (Some (mysql.RowsEvent c.in-Ok-Some-RowsEvent.rows)) = search rules in
    read_event_if c.push_rows.result c.args.checks (view_of c.args.map_event.now) c.args.map.now (view_of c.args.event.now) c.args.read.now c.in-Ok-Some-RowsEvent.rows
    c.args.writer.now c.push_rows.new.writer is c.push_rows.ensures
