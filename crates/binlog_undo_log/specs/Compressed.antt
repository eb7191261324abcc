-- Compressed rows of MariaDB's, and the row event that was compressed.
-- Source: MariaDB's documentation, "Compressed Binlog Events".
use Rattle.std.specs.Prelude.{◌≡◌, ◌⊎◌, ℕ, ◌≤◌, ◌-◌, ◌==◌, if◌then◌else◌, List, ◌++◌, length, take, Option, Some, Result, Ok}
use Rattle.binlog_event_data.specs.ReadData.{ReadsData}
use Rattle.binlog_event_data.specs.declared.event_data.EventData.{EventData}
use Rattle.binlog_event_data.specs.declared.event_data.EventData.TheVariants as mysql
use Rattle.binlog_event_format.specs.Headers.{header_of}
use Rattle.binlog_events.specs.Events.{EventView}
use Rattle.binlog_events.specs.Parts.{data_of}
use Rattle.binlog_file.specs.LogData.{ReadsLogData}
use Rattle.binlog_file.specs.declared.log_data.LogEventData.{LogEventData}
use Rattle.binlog_file.specs.declared.log_data.LogEventData.TheVariants.{Mysql, Maria}
use Rattle.binlog_mariadb.specs.Compressed.{IsCompressed}
use Rattle.binlog_mariadb.specs.declared.compressed_rows.RowsCompressedEvent.{RowsCompressedEvent}
use Rattle.binlog_mariadb.specs.declared.event_data.MariaEventData.TheVariants as maria
use Rattle.binlog_rows.specs.RowsData.{event_in}
use Rattle.binlog_rows.specs.declared.rows_event_data.RowsEventData.{RowsEventData}
use Rattle.binlog_wire.specs.declared.error.Error.{Error}

-- The greatest size of uncompressed rows in bytes: that of a packet of the server.
abbrev pub most_bytes : ℕ
most_bytes = 1073741824

-- The type of the event that was compressed as one of this type.
abbrev pub uncompressed_type : ℕ → ℕ
uncompressed_type type =
    if type == 166 then 23
    else (if type == 167 then 24
    else (if type == 168 then 25
    else (if type == 169 then 30
    else (if type == 170 then 31
    else 32))))

-- The body of the event that was compressed: that of the compressed event, with the rows in place of the bytes that are stored for them,
-- if these aren't too many.
pub record IsUncompressed (event : EventView) (compressed : RowsCompressedEvent) (body : List ℕ) : Type 0 where
  pub rows : List ℕ
  pub are : IsCompressed (event_in compressed.event).rows rows
  pub within : length rows ≤ most_bytes
  pub is : body ≡ take (length (data_of event.fde.footer event.frame) - length (event_in compressed.event).rows) (data_of event.fde.footer event.frame) ++ rows

-- The results of reading this body as the data of the event that was compressed.
abbrev pub ReadsUncompressed : EventView → List ℕ → Result (Option EventData) Error → Type 0
ReadsUncompressed event body read = ReadsData event.fde (uncompressed_type (header_of event.frame).event_type) body read

-- These are the rows of the event that was compressed as this one.
pub record HasCompressedRows (event : EventView) (compressed : RowsCompressedEvent) (rows : RowsEventData) : Type 0 where
  pub body : List ℕ
  pub is : IsUncompressed event compressed body
  pub read : ReadsUncompressed event body (Ok (Some (mysql.RowsEvent rows)))

-- What was read of an event are these rows, as they are or compressed.
abbrev pub IsReadAsRows : EventView → Result (Option LogEventData) Error → RowsEventData → Type 0
IsReadAsRows event read rows =
    (read ≡ Ok (Some (Mysql (mysql.RowsEvent rows))))
    ⊎ ((compressed : RowsCompressedEvent) × (read ≡ Ok (Some (Maria (maria.RowsCompressedEvent compressed)))) × HasCompressedRows event compressed rows)

-- The event is read as these rows.
pub record ReadsRows (event : EventView) (rows : RowsEventData) : Type 0 where
  pub read : Result (Option LogEventData) Error
  pub reads : ReadsLogData event read
  pub are : IsReadAsRows event read rows
