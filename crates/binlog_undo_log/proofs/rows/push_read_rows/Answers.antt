use Rattle.std.proofs.Common.{◌≡◌, Ok, Some, rules}
use Rattle.binlog_event_data.specs.declared.event_data.EventData.TheVariants as mysql
use Rattle.binlog_events.specs.EventRefs.{view_of}
use Rattle.binlog_file.specs.declared.log_data.LogEventData.TheVariants.{Mysql, Maria}
use Rattle.binlog_mariadb.specs.declared.event_data.MariaEventData.TheVariants as maria
use Rattle.binlog_undo_log.proofs.ReadEvents.{read_rows_if, read_compressed_if}
use Rattle.binlog_undo_log.proofs.rows.push_read_rows.Goals as goal

pub returns-in-Ok-Some-Mysql-RowsEvent : goal.returns-in-Ok-Some-Mysql-RowsEvent
returns-in-Ok-Some-Mysql-RowsEvent c =
    let is : c.args.read.now ≡ Ok (Some (Mysql (mysql.RowsEvent c.in-Ok-Some-Mysql-RowsEvent.rows))) = search rules in
    read_rows_if c.push_rows.result c.args.checks (view_of c.args.map_event.now) c.args.map.now (view_of c.args.event.now) c.args.read.now c.in-Ok-Some-Mysql-RowsEvent.rows
    c.args.writer.now c.push_rows.new.writer is c.push_rows.ensures

pub returns-in-Ok-Some-Maria-RowsCompressedEvent : goal.returns-in-Ok-Some-Maria-RowsCompressedEvent
returns-in-Ok-Some-Maria-RowsCompressedEvent c =
    let is : c.args.read.now ≡ Ok (Some (Maria (maria.RowsCompressedEvent c.in-Ok-Some-Maria-RowsCompressedEvent.compressed))) = search rules in
    read_compressed_if c.push_compressed.result c.args.checks (view_of c.args.map_event.now) c.args.map.now (view_of c.args.event.now) c.args.read.now
    c.in-Ok-Some-Maria-RowsCompressedEvent.compressed c.args.writer.now c.push_compressed.new.writer is c.push_compressed.ensures
