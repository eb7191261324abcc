-- What is written for an event.
use Rattle.std.specs.Prelude.{◌≡◌, ℕ, Bool, true, false, List, [], ◌∷◌, Option, Some, None, Result, Ok, Err}
use Rattle.binlog_wire.specs.declared.error.Error.{Error}
use Rattle.binlog_wire.specs.declared.error.Error.TheVariants.{Memory}
use Rattle.binlog_event_format.specs.Headers.{header_of}
use Rattle.binlog_events.specs.Events.{EventView}
use Rattle.binlog_event_data.specs.declared.event_data.EventData.{EventData}
use Rattle.binlog_event_data.specs.declared.event_data.EventData.TheVariants as mysql
use Rattle.binlog_mariadb.specs.declared.event_data.MariaEventData.{MariaEventData}
use Rattle.binlog_mariadb.specs.declared.event_data.MariaEventData.TheVariants as maria
use Rattle.binlog_file.specs.LogData.{ReadsLogData}
use Rattle.binlog_file.specs.declared.log_data.LogEventData.{LogEventData}
use Rattle.binlog_file.specs.declared.log_data.LogEventData.TheVariants.{Mysql, Maria}
use Rattle.binlog_images.specs.Cells.{RowCells}
use Rattle.binlog_images.specs.declared.rows_error.RowsError.{RowsError}
use Rattle.binlog_rows.specs.RowsData.{event_in}
use Rattle.binlog_rows.specs.declared.rows_event_data.RowsEventData.{RowsEventData}
use Rattle.binlog_rows.specs.declared.table_map_event.TableMapEvent.{TableMapEvent}
use Rattle.binlog_json_lines.specs.Lines.{IsLineWith}
use Rattle.binlog_json_lines.specs.PartLines.{IsPartEventLine}
use Rattle.binlog_json_lines.specs.Options.{RowOptions}
use Rattle.binlog_json_lines.specs.RowMembers.{IsFlavour}
use Rattle.column_files.specs.declared.tables.DeclaredTables.{DeclaredTables}
use Rattle.binlog_change_lines.specs.Heads.{Place}
use Rattle.binlog_change_lines.specs.RowLines.{AllAreReadBy, AreLinesOfEvent}
use Rattle.binlog_change_lines.specs.declared.change_lines.Shown.{Shown}
use Rattle.binlog_change_lines.specs.declared.change_lines.Shown.TheVariants.{Nothing, Rows, Whole}

-- ---- which events have lines that aren't row events

-- Rows of old servers, which aren't read, and a message that events are lost. The events inside a compressed transaction have texts of their
-- own.
abbrev pub has_mysql_line : EventData → Bool
has_mysql_line (mysql.PreGaWriteRowsEvent bytes) = true
has_mysql_line (mysql.PreGaUpdateRowsEvent bytes) = true
has_mysql_line (mysql.PreGaDeleteRowsEvent bytes) = true
has_mysql_line (mysql.IncidentEvent event) = true
has_mysql_line body = false

-- Compressed rows, which aren't read, and a message that all events behind it are encrypted.
abbrev pub has_maria_line : MariaEventData → Bool
has_maria_line (maria.StartEncryptionEvent event) = true
has_maria_line (maria.RowsCompressedEvent event) = true
has_maria_line body = false

abbrev pub has_line : LogEventData → Bool
has_line (Mysql body) = has_mysql_line body
has_line (Maria body) = has_maria_line body

-- The row event that the data of an event is.
abbrev pub mysql_rows_in : EventData → Option RowsEventData
mysql_rows_in (mysql.RowsEvent body) = Some body
mysql_rows_in body = None

abbrev pub rows_in : LogEventData → Option RowsEventData
rows_in (Mysql body) = mysql_rows_in body
rows_in (Maria body) = None

-- Whether there are bytes of rows. Rows without columns have none, so without bytes it isn't known how many rows there are.
abbrev pub has_bytes : List ℕ → Bool
has_bytes [] = false
has_bytes (byte ∷ bytes) = true

-- ---- what is made of an event

-- `time` is that of the event, and `map` the table map in force for it.
module _ (files : List DeclaredTables) (place : Place) (event : EventView) (map : Option TableMapEvent) where
  -- The text is the lines of all rows of the event, with this table map.
  abbrev pub AreLinesBy : (is_maria_log : Bool) → RowsEventData → Option TableMapEvent → (contradiction : Option ℕ) → (text : List ℕ) → Type 0
  AreLinesBy is_maria_log body None contradiction text = ⊥
  AreLinesBy is_maria_log body (Some map) contradiction text = AreLinesOfEvent files is_maria_log place (header_of event.frame).timestamp body map contradiction text

  -- The same, by the server that wrote the log.
  abbrev pub AreLines : RowsEventData → (contradiction : Option ℕ) → (text : List ℕ) → Type 0
  AreLines body contradiction text = (is_maria_log : Bool) × IsFlavour event is_maria_log × AreLinesBy is_maria_log body map contradiction text

  -- Not all rows of the event can be read.
  abbrev pub AreUnread : RowsEventData → Type 0
  AreUnread body = (items : List (Result RowCells RowsError)) → AllAreReadBy body map items → ⊥

  -- Of a row event: the lines of its rows, if it has bytes of rows and all can be read; else its whole line.
  abbrev pub ShowsSomeRows : (has_bytes : Bool) → RowsEventData → Shown → (text : List ℕ) → Type 0
  ShowsSomeRows false body shown text = shown ≡ Whole
  ShowsSomeRows true body Nothing text = ⊥
  ShowsSomeRows true body (Rows contradiction) text = AreLines body contradiction text
  ShowsSomeRows true body Whole text = AreUnread body

  abbrev pub ShowsRows : RowsEventData → Shown → (text : List ℕ) → Type 0
  ShowsRows body shown text = ShowsSomeRows (has_bytes (event_in body).rows) body shown text

  -- Of another event: its whole line, or nothing.
  abbrev pub shown_if : (has_line : Bool) → Shown
  shown_if true = Whole
  shown_if false = Nothing

  abbrev pub ShowsIf : Option RowsEventData → (has_line : Bool) → Shown → (text : List ℕ) → Type 0
  ShowsIf (Some body) has_line shown text = ShowsRows body shown text
  ShowsIf None has_line shown text = shown ≡ shown_if has_line

  -- What is made of an event whose data was read so: the whole line if its type is unknown, and if the data can't be read.
  abbrev pub ShowsRead : Result (Option LogEventData) Error → Shown → (text : List ℕ) → Type 0
  ShowsRead (Ok (Some x)) shown text = ShowsIf (rows_in x) (has_line x) shown text
  ShowsRead (Ok None) shown text = shown ≡ Whole
  ShowsRead (Err error) shown text = shown ≡ Whole

-- This is made of an event, with these lines if it is the lines of its rows.
pub record ShowsEvent (files : List DeclaredTables) (place : Place) (event : EventView) (map : Option TableMapEvent) (shown : Shown) (lines : List ℕ) : Type 0 where
  pub read : Result (Option LogEventData) Error
  pub reads : ReadsLogData event read
  pub is_read : ¬ (read ≡ Err Memory)
  pub shows : ShowsRead files place event map read shown lines

-- ---- texts, where `IsWhole` says which is the whole line of an event

module _ (IsWhole : (contradiction : Option ℕ) → (text : List ℕ) → Type 0) where
  -- The text that is written by what is made of an event: none, the lines of its rows, or its whole line.
  abbrev pub IsTextOf : Shown → (lines : List ℕ) (contradiction : Option ℕ) (text : List ℕ) → Type 0
  IsTextOf Nothing lines contradiction text = (contradiction ≡ None) × (text ≡ [])
  IsTextOf (Rows found) lines contradiction text = (contradiction ≡ found) × (text ≡ lines)
  IsTextOf Whole lines contradiction text = IsWhole contradiction text

  -- The text that is written for an event, which stands at this place, by the table map in force for it.
  pub record IsTextAt (files : List DeclaredTables) (place : Place) (map : Option TableMapEvent) (event : EventView) (contradiction : Option ℕ) (text : List ℕ) : Type 0 where
    pub shown : Shown
    pub lines : List ℕ
    pub shows : ShowsEvent files place event map shown lines
    pub is : IsTextOf shown lines contradiction text

-- That of an event of a log with this index, and that of an event inside the one with this index, with its number there.
abbrev pub IsEventText : RowOptions → Place → Option TableMapEvent → (index : ℕ) → EventView → (contradiction : Option ℕ) → (text : List ℕ) → Type 0
IsEventText options place map index event contradiction text =
    IsTextAt (λ contradiction text. IsLineWith options map index event contradiction text) options.files place map event contradiction text

abbrev pub IsPartText : RowOptions → Place → Option TableMapEvent → (index number : ℕ) → EventView → (contradiction : Option ℕ) → (text : List ℕ) → Type 0
IsPartText options place map index number event contradiction text =
    IsTextAt (λ contradiction text. IsPartEventLine options map index number event contradiction text) options.files place map event contradiction text
