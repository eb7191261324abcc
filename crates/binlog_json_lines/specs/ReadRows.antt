-- The row event that was read of the data of an event, and its table map.
use Rattle.std.specs.Prelude.{Option, None, Some, option_map, Result, Ok, Err}
use Rattle.std.specs.Option.{option_and_then}
use Rattle.binlog_wire.specs.declared.error.Error.{Error}
use Rattle.binlog_event_data.specs.declared.event_data.EventData.{EventData}
use Rattle.binlog_rows.specs.RowsData.{event_in}
use Rattle.binlog_rows.specs.declared.rows_event_data.RowsEventData.{RowsEventData}
use Rattle.binlog_rows.specs.declared.table_map_event.TableMapEvent.{TableMapEvent}
use Rattle.binlog_file.specs.TableMapsInForce.{TableMaps}
use Rattle.binlog_filters.specs.RowEvents.{rows_in}

-- The row event that was read; None if something else was, or nothing.
abbrev pub rows_of_read : Result (Option EventData) Error → Option RowsEventData
rows_of_read (Ok (Some body)) = rows_in body
rows_of_read (Ok None) = None
rows_of_read (Err error) = None

-- The table map in force for the table id of a row event.
abbrev pub map_of_rows : TableMaps → Option RowsEventData → Option TableMapEvent
map_of_rows maps rows = option_and_then maps (option_map (λ body. (event_in body).head.table_id) rows)
