-- What an event says of rows.
use Rattle.std.specs.Prelude.{◌≡◌, ◌⊎◌, ℕ, ◌==◌, Bool, true, false, [], ◌∷◌, Option, Some, None, is_some, option_and_then, Result, Ok, Err}
use Rattle.std.specs.List.{list_any}
use Rattle.binlog_wire.specs.declared.error.Error.{Error}
use Rattle.binlog_wire.specs.declared.error.Error.TheVariants.{Memory}
use Rattle.binlog_event_format.specs.Headers.{header_of}
use Rattle.binlog_rows.specs.declared.rows_event.RowsEvent.{RowsEvent}
use Rattle.binlog_rows.specs.declared.rows_event_data.RowsEventData.{RowsEventData}
use Rattle.binlog_rows.specs.declared.table_map_event.TableMapEvent.{TableMapEvent}
use Rattle.binlog_rows.specs.RowsData.{event_in}
use Rattle.binlog_event_data.specs.declared.event_data.EventData.TheVariants as mysql
use Rattle.binlog_mariadb.specs.declared.event_data.MariaEventData.TheVariants as maria
use Rattle.binlog_events.specs.Events.{EventView}
use Rattle.binlog_file.specs.TableMapsInForce.{TableMaps}
use Rattle.binlog_file.specs.LogData.{ReadsLogData}
use Rattle.binlog_file.specs.declared.log_data.LogEventData.{LogEventData}
use Rattle.binlog_file.specs.declared.log_data.LogEventData.TheVariants.{Mysql, Maria}
use Rattle.binlog_images.specs.EventRows.{is_partial}
use Rattle.binlog_statistics.specs.RowCounts.{IsRowCount}
use Rattle.binlog_statistics.specs.CompressedRows.{IsStoredCount}
use Rattle.change_statistics.specs.declared.facts.ChangeKind.{ChangeKind}
use Rattle.change_statistics.specs.declared.facts.ChangeKind.TheVariants.{Inserted, Updated, Deleted}
use Rattle.binlog_statistics.specs.declared.finding.RowsFound.{RowsFound}
use Rattle.binlog_statistics.specs.declared.finding.RowsFound.TheVariants.{Other, Unreadable, Rows}

-- The types of events that have rows, or may have some: row events of all versions, partial updates; of MariaDB's own types the compressed
-- row events. The rows of a compressed transaction are those of the events in it.
abbrev pub may_have_rows : ℕ → Bool
may_have_rows type = list_any (λ (other : ℕ). type == other) (20 ∷ 21 ∷ 22 ∷ 23 ∷ 24 ∷ 25 ∷ 30 ∷ 31 ∷ 32 ∷ 39 ∷ 166 ∷ 167 ∷ 168 ∷ 169 ∷ 170 ∷ 171 ∷ [])

-- Rows with an image after alone are inserted, those with one before alone deleted.
abbrev pub kind_by : (has_before has_after : Bool) → ChangeKind
kind_by false has_after = Inserted
kind_by true false = Deleted
kind_by true true = Updated

abbrev pub kind_of : RowsEvent → ChangeKind
kind_of event = kind_by (is_some event.columns.before) (is_some event.columns.after)

abbrev pub rows_found : RowsEvent → Option ℕ → RowsFound
rows_found event count = Rows (record { table_id = event.head.table_id; kind = kind_of event; count = count })

-- So many rows are in the event, by the table map in force, if there is one.
abbrev pub IsMappedCount : RowsEventData → Option TableMapEvent → Option ℕ → Type 0
IsMappedCount rows None count = count ≡ None
IsMappedCount rows (Some table_map) count = IsRowCount (is_partial rows) (event_in rows) table_map count

-- The same of a compressed event.
abbrev pub IsMappedStoredCount : RowsEvent → Option TableMapEvent → Option ℕ → Type 0
IsMappedStoredCount event None count = count ≡ None
IsMappedStoredCount event (Some table_map) count = IsStoredCount event table_map count

-- What a compressed event says of rows.
abbrev pub IsFoundStored : Option TableMapEvent → RowsEvent → RowsFound → Type 0
IsFoundStored map event found = (count : Option ℕ) × IsMappedStoredCount event map count × (found ≡ rows_found event count)

-- The table id of a row event of which this was read.
abbrev pub table_id_in : Result (Option LogEventData) Error → Option ℕ
table_id_in (Ok (Some (Mysql (mysql.RowsEvent rows)))) = Some (event_in rows).head.table_id
table_id_in (Ok (Some (Maria (maria.RowsCompressedEvent rows)))) = Some (event_in rows.event).head.table_id
table_id_in read = None

-- What the data of an event that may have rows says of them, by the table map in force, if there is one.
abbrev pub IsFound : Option TableMapEvent → Result (Option LogEventData) Error → RowsFound → Type 0
IsFound map (Ok (Some (Mysql (mysql.RowsEvent rows)))) found = (count : Option ℕ) × IsMappedCount rows map count × (found ≡ rows_found (event_in rows) count)
IsFound map (Ok (Some (Maria (maria.RowsCompressedEvent rows)))) found = IsFoundStored map (event_in rows.event) found
IsFound map (Ok None) found = found ≡ Other
IsFound map read found = found ≡ Unreadable

-- What an event says of rows that may have some, by its data, or by the error that its bytes give. A lack of memory says nothing.
pub record ReadsRows (maps : TableMaps) (event : EventView) (found : RowsFound) : Type 0 where
  pub read : Result (Option LogEventData) Error
  pub reads : ReadsLogData event read
  pub is_read : ¬ (read ≡ Err Memory)
  pub is : IsFound (option_and_then maps (table_id_in read)) read found

-- What an event says of rows, where these table maps are in force.
abbrev pub FindsRows : TableMaps → EventView → RowsFound → Type 0
FindsRows maps event found =
    ((may_have_rows (header_of event.frame).event_type ≡ false) × (found ≡ Other))
    ⊎ ((may_have_rows (header_of event.frame).event_type ≡ true) × ReadsRows maps event found)

-- The same of an event that may have some, by this table map.
pub record FindsMappedRows (map : TableMapEvent) (event : EventView) (found : RowsFound) : Type 0 where
  pub read : Result (Option LogEventData) Error
  pub reads : ReadsLogData event read
  pub is_read : ¬ (read ≡ Err Memory)
  pub is : IsFound (Some map) read found
