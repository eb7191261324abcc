-- The table maps and row events that fit the format in which they are written: those whose fields are in their ranges.
use Rattle.std.proofs.Common.{◌^◌, ◌<◌}
use Rattle.std.specs.Prelude.{IfSome}
use Rattle.binlog_rows.specs.Columns.{IsBitmap}
use Rattle.binlog_rows.specs.TableColumns.{AreColumns}
use Rattle.binlog_rows.specs.declared.table_map_event.TableMapEvent.{TableMapEvent}
use Rattle.binlog_rows.specs.declared.rows_event.RowsEvent.{RowsEvent}

-- The ranges given by the types of a table map's fields.
pub record TableMapInRange (event : TableMapEvent) : Type 0 where
  pub id : event.table.id < 2 ^ 48
  pub flags : event.table.flags < 2 ^ 16
  pub null_bits : IsBitmap event.columns.null_bits
  pub columns : AreColumns event.columns

-- The ranges given by the types of a row event's fields.
pub record RowsInRange (event : RowsEvent) : Type 0 where
  pub table_id : event.head.table_id < 2 ^ 48
  pub flags : event.head.flags < 2 ^ 16
  pub count : event.columns.count < 2 ^ 64
  pub before : IfSome event.columns.before IsBitmap
  pub after : IfSome event.columns.after IsBitmap
