-- The number of the rows of MariaDB's compressed row events: that of the rows for which their bytes are stored.
use Rattle.std.specs.Prelude.{◌≡◌, ◌⊎◌, ℕ, ◌<◌, ◌≤◌, ◌==◌, if◌then◌else◌, false, List, length, Option, Some, None, Result, Ok}
use Rattle.binlog_wire.specs.declared.error.Error.{Error}
use Rattle.binlog_rows.specs.declared.rows_event.RowsEvent.{RowsEvent}
use Rattle.binlog_rows.specs.declared.table_map_event.TableMapEvent.{TableMapEvent}
use Rattle.binlog_rows.specs.RowsData.{event_in}
use Rattle.binlog_event_data.specs.declared.event_data.EventData.{EventData}
use Rattle.binlog_event_data.specs.declared.event_data.EventData.TheVariants as mysql
use Rattle.binlog_events.specs.Events.{EventView}
use Rattle.binlog_mariadb.specs.Compressed.{IsCompressed}
use Rattle.binlog_mariadb.specs.declared.compressed_rows.RowsCompressedEvent.{RowsCompressedEvent}
use Rattle.binlog_mariadb.specs.declared.event_data.MariaEventData.TheVariants as maria
use Rattle.binlog_file.specs.LogData.{ReadsLogData}
use Rattle.binlog_file.specs.declared.log_data.LogEventData.TheVariants.{Maria}
use Rattle.binlog_images.specs.EventRows.{is_partial}
use Rattle.binlog_statistics.specs.RowCounts.{IsRowCount}

-- The greatest size of uncompressed rows in bytes: that of a packet of the server.
abbrev pub most_bytes : ℕ
most_bytes = 1073741824

-- The bytes are stored for these rows, which aren't longer than that, and for no others.
pub record AreStored (stored rows : List ℕ) : Type 0 where
  pub are : IsCompressed stored rows
  pub only : (others : List ℕ) → IsCompressed stored others → others ≡ rows
  pub within : length rows ≤ most_bytes

-- The bytes are stored for no rows, or for rows that are longer.
abbrev pub HasNoRows : (stored : List ℕ) → Type 0
HasNoRows stored = (rows : List ℕ) → IsCompressed stored rows → most_bytes < length rows

-- The event with these rows.
abbrev pub with_rows : RowsEvent → List ℕ → RowsEvent
with_rows event rows = record event { rows = rows }

-- So many rows are in a compressed event, whose table has this table map: as many as in the event that has the rows in place of the bytes
-- that are stored for them. No compressed event holds partial updates.
abbrev pub IsStoredCount : RowsEvent → TableMapEvent → Option ℕ → Type 0
IsStoredCount event table_map count =
    ((rows : List ℕ) × AreStored event.rows rows × IsRowCount false (with_rows event rows) table_map count)
    ⊎ (HasNoRows event.rows × (count ≡ None))

-- ---- the uncompressed event

-- This compressed event is read of the data of an event.
abbrev pub ReadsCompressed : EventView → RowsCompressedEvent → Type 0
ReadsCompressed event compressed = ReadsLogData event (Ok (Some (Maria (maria.RowsCompressedEvent compressed))))

-- The type of the event that was compressed, as an event of this type.
abbrev pub uncompressed_type : ℕ → ℕ
uncompressed_type type =
    if type == 166 then 23
    else (if type == 167 then 24
    else (if type == 168 then 25
    else (if type == 169 then 30
    else (if type == 170 then 31
    else 32))))

-- So many rows are in an event of which this was read; None if that is no row event.
abbrev pub IsReadCount : Result (Option EventData) Error → TableMapEvent → Option ℕ → Type 0
IsReadCount (Ok (Some (mysql.RowsEvent rows))) table_map count = IsRowCount (is_partial rows) (event_in rows) table_map count
IsReadCount read table_map count = count ≡ None
