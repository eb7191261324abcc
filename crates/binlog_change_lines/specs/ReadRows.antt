-- The row event that was read of the data of an event of either server.
use Rattle.std.specs.Prelude.{Option, None, Some, Result, Ok, Err}
use Rattle.binlog_wire.specs.declared.error.Error.{Error}
use Rattle.binlog_file.specs.declared.log_data.LogEventData.{LogEventData}
use Rattle.binlog_rows.specs.declared.rows_event_data.RowsEventData.{RowsEventData}
use Rattle.binlog_change_lines.specs.EventTexts.{rows_in}

-- The row event that was read; None if something else was, or nothing.
abbrev pub rows_of_read : Result (Option LogEventData) Error → Option RowsEventData
rows_of_read (Ok (Some body)) = rows_in body
rows_of_read (Ok None) = None
rows_of_read (Err error) = None
