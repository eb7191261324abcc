-- What the first pass sees of rows.
use Rattle.std.specs.Prelude.{◌≡◌, ◌⊎◌, ℕ, ◌==◌, Bool, true, false, ◌&&◌, ◌||◌, not, List, [], ◌∷◌, Option, Some, None, is_some, Result, Ok, Err}
use Rattle.std.specs.Ordering.{nat_cmp}
use Rattle.std.specs.BTreeMap.{get}
use Rattle.std.specs.List.{list_any}
use Rattle.binlog_columns.specs.Metadata.{Typed}
use Rattle.binlog_columns.specs.Refusals.{refusal, columns_in}
use Rattle.binlog_columns.specs.declared.column_error.ColumnError.{ColumnError}
use Rattle.binlog_consts.specs.declared.event_type.EventType.{EventType}
use Rattle.binlog_event_format.specs.declared.format_description.FormatDescriptionEvent.{FormatDescriptionEvent}
use Rattle.binlog_events.specs.Events.{EventView}
use Rattle.binlog_file.specs.TableMapsInForce.{TableMaps}
use Rattle.binlog_filters.specs.Concerns.{is_concerned}
use Rattle.binlog_filters.specs.Tables.{ReadsConcern}
use Rattle.binlog_filters.specs.declared.concern.Concern.{Concern}
use Rattle.binlog_filters.specs.declared.tables.TableFilter.{TableFilter}
use Rattle.binlog_event_data.specs.declared.event_data.EventData.{EventData}
use Rattle.binlog_event_data.specs.declared.event_data.EventData.TheVariants as mysql
use Rattle.binlog_mariadb.specs.Compressed.{Denies}
use Rattle.binlog_mariadb.specs.declared.compressed_rows.RowsCompressedEvent.{RowsCompressedEvent}
use Rattle.binlog_mariadb.specs.declared.compression_error.CompressionError.{CompressionError}
use Rattle.binlog_mariadb.specs.declared.compression_error.CompressionError.TheVariants as compression
use Rattle.binlog_wire.specs.declared.error.Error.{Error}
use Rattle.binlog_wire.specs.declared.error.Error.TheVariants.{Memory}
use Rattle.binlog_rows.specs.RowsData.{event_in}
use Rattle.binlog_rows.specs.declared.rows_event_data.RowsEventData.{RowsEventData}
use Rattle.binlog_rows.specs.declared.table_map_event.TableMapEvent.{TableMapEvent}
use Rattle.binlog_undo.specs.declared.undo_error.UndoError.{UndoError}
use Rattle.binlog_undo.specs.declared.undo_error.UndoError.TheVariants as errors
use Rattle.binlog_undo_index.specs.declared.places.ChangePlace.{ChangePlace}
use Rattle.binlog_undo_index.specs.declared.reason.Reason.TheVariants as reasons
use Rattle.binlog_undo_log.specs.Compressed.{most_bytes, IsUncompressed, ReadsUncompressed}
use Rattle.binlog_undo_log.specs.Heads.{is_writable, has_rows_length}
use Rattle.binlog_undo_log.specs.Keys.{IsMariaEvent, ChecksByKey}
use Rattle.binlog_undo_log.specs.declared.choice.Choice.{Choice}
use Rattle.binlog_undo_log.specs.declared.scan.seeing.RowsLook.{RowsLook}
use Rattle.binlog_undo_log.specs.declared.scan.seeing.RowsLook.TheVariants.{Left, Undone, Refused, Damaged}
use Rattle.binlog_undo_log.specs.declared.scan.UndoScan.{UndoScan}

-- ---- tables

-- The table of a row event is one of these, or isn't; without conditions that is said otherwise.
abbrev pub NamesTable : Bool → Option TableFilter → TableMaps → EventView → Bool → Type 0
NamesTable otherwise None maps event named = named ≡ otherwise
NamesTable otherwise (Some filter) maps event named = (concern : Concern) × ReadsConcern filter false maps event concern × (named ≡ is_concerned false false concern)

-- The table is chosen: it is one of those that are asked for, if there are some, and none of those that are left out.
abbrev pub AsksFor : Choice → TableMaps → EventView → Bool → Type 0
AsksFor choice maps event asked =
    (within : Bool) × (without : Bool) × NamesTable true choice.tables maps event within × NamesTable false choice.excluded maps event without × (asked ≡ (within && not without))

-- ---- columns

-- The types TIMESTAMP, TIME and DATETIME.
abbrev pub is_old_temporal : ℕ → Bool
is_old_temporal number = (number == 7) || ((number == 11) || (number == 12))

-- In a log of MariaDB's one of the columns has such a type: its values have one form or another, and the log doesn't say which.
abbrev pub IsOldTemporal : EventView → List ℕ → Bool → Type 0
IsOldTemporal event types old =
    (maria : Bool) × IsMariaEvent event maria × (old ≡ (maria && list_any is_old_temporal types))

-- The form of the values isn't known, unless it is said that they have no fractions.
abbrev pub IsUnknownTemporal : Bool → EventView → List ℕ → Bool → Type 0
IsUnknownTemporal true event types unknown = unknown ≡ false
IsUnknownTemporal false event types unknown = IsOldTemporal event types unknown

-- ---- what undoes the rows

abbrev pub look_if : Bool → ChangePlace → RowsLook
look_if true place = Undone place
look_if false place = Refused reasons.Description

-- Of rows at these places, which an event of this type undoes, or which are refused so.
abbrev pub LooksAs : FormatDescriptionEvent → ChangePlace → Result EventType UndoError → RowsLook → Type 0
LooksAs d place (Ok event_type) look = look ≡ look_if (has_rows_length d event_type) place
LooksAs d place (Err errors.Image) look = look ≡ Refused reasons.Image
LooksAs d place (Err (errors.PartialJson row)) look = look ≡ Refused reasons.PartialJson
LooksAs d place (Err (errors.Event error)) look = look ≡ Refused reasons.Rows
LooksAs d place (Err (errors.Rows error)) look = look ≡ Refused reasons.Rows
LooksAs d place (Err errors.Memory) look = ⊥

-- Of a table with this map and these columns.
abbrev pub LooksAtColumns : UndoScan → EventView → RowsEventData → TableMapEvent → List Typed → (table_map : ℕ) → RowsLook → Type 0
LooksAtColumns scan event rows map columns table_map look =
    (maria : Bool) × IsMariaEvent event maria × (answer : Result EventType UndoError) × ChecksByKey maria map columns rows answer
    × LooksAs event.fde (record { table_map = table_map; rows = scan.place }) answer look

-- ---- a row event, one condition after the other

abbrev pub LooksUnlessOld : Bool → UndoScan → EventView → RowsEventData → TableMapEvent → List Typed → (table_map : ℕ) → RowsLook → Type 0
LooksUnlessOld true scan event rows map columns table_map look = look ≡ Refused reasons.OldTemporal
LooksUnlessOld false scan event rows map columns table_map look = LooksAtColumns scan event rows map columns table_map look

abbrev pub LooksUnlessRefused : Option ColumnError → UndoScan → EventView → RowsEventData → TableMapEvent → (table_map : ℕ) → RowsLook → Type 0
LooksUnlessRefused (Some error) scan event rows map table_map look = look ≡ Refused reasons.Rows
LooksUnlessRefused None scan event rows map table_map look =
    (old : Bool) × IsUnknownTemporal scan.choice.has_plain_temporal event map.columns.types old
    × LooksUnlessOld old scan event rows map (columns_in map.columns.types map.columns.metadata) table_map look

-- Of a table with this map, which is at this place.
abbrev pub LooksAtTable : UndoScan → EventView → RowsEventData → TableMapEvent → (table_map : ℕ) → RowsLook → Type 0
LooksAtTable scan event rows map table_map look = LooksUnlessRefused (refusal 0 map.columns.types map.columns.metadata) scan event rows map table_map look

abbrev pub LooksIfWritable : Bool → UndoScan → EventView → RowsEventData → TableMapEvent → (table_map : ℕ) → RowsLook → Type 0
LooksIfWritable false scan event rows map table_map look = look ≡ Refused reasons.Description
LooksIfWritable true scan event rows map table_map look = LooksAtTable scan event rows map table_map look

-- Of a table that is chosen, with this map, which is at this place. There has to be a description under which events can be written.
abbrev pub LooksAtChosen : UndoScan → EventView → RowsEventData → TableMapEvent → (table_map : ℕ) → RowsLook → Type 0
LooksAtChosen scan event rows map table_map look = LooksIfWritable (is_some scan.description && is_writable event.fde) scan event rows map table_map look

abbrev pub LooksIfAsked : Bool → UndoScan → EventView → RowsEventData → TableMapEvent → (table_map : ℕ) → RowsLook → Type 0
LooksIfAsked false scan event rows map table_map look = look ≡ Left
LooksIfAsked true scan event rows map table_map look = LooksAtChosen scan event rows map table_map look

-- A table map of their id is in force, or none is: inside a compressed transaction those outside aren't.
abbrev pub LooksIfMapped : Option TableMapEvent → UndoScan → TableMaps → EventView → RowsEventData → (table_map : ℕ) → RowsLook → Type 0
LooksIfMapped None scan maps event rows table_map look = look ≡ Refused reasons.NoTableMap
LooksIfMapped (Some map) scan maps event rows table_map look =
    (asked : Bool) × AsksFor scan.choice maps event asked × LooksIfAsked asked scan event rows map table_map look

abbrev pub id_of : RowsEventData → ℕ
id_of rows = (event_in rows).head.table_id

-- The newest table map of their id in their transaction is at a place, or isn't there.
abbrev pub LooksByPlace : Option ℕ → UndoScan → TableMaps → EventView → RowsEventData → RowsLook → Type 0
LooksByPlace None scan maps event rows look = look ≡ Refused reasons.NoTableMap
LooksByPlace (Some table_map) scan maps event rows look = LooksIfMapped (maps (id_of rows)) scan maps event rows table_map look

-- What can be undone of an event without bytes are no rows.
abbrev pub left_if_undone : RowsLook → RowsLook
left_if_undone Left = Left
left_if_undone (Undone place) = Left
left_if_undone (Refused reason) = Refused reason
left_if_undone Damaged = Damaged

-- Of an event without bytes, where the newest table map of its id in its transaction is at a place, or isn't there. It has no rows without one, or
-- if its images have what is needed to undo rows. Else it may have some: a row of no columns has no bytes.
abbrev pub LooksWithoutBytes : Option ℕ → UndoScan → TableMaps → EventView → RowsEventData → RowsLook → Type 0
LooksWithoutBytes None scan maps event rows look = look ≡ Left
LooksWithoutBytes (Some table_map) scan maps event rows look =
    (seen : RowsLook) × LooksByPlace (Some table_map) scan maps event rows seen × (look ≡ left_if_undone seen)

abbrev pub LooksAtEmpty : UndoScan → TableMaps → EventView → RowsEventData → RowsLook → Type 0
LooksAtEmpty scan maps event rows look = LooksWithoutBytes (get nat_cmp scan.index.maps (id_of rows)) scan maps event rows look

abbrev pub LooksIfAny : List ℕ → UndoScan → TableMaps → EventView → RowsEventData → RowsLook → Type 0
LooksIfAny [] scan maps event rows look = LooksAtEmpty scan maps event rows look
LooksIfAny (byte ∷ bytes) scan maps event rows look = LooksByPlace (get nat_cmp scan.index.maps (id_of rows)) scan maps event rows look

-- What is seen of rows.
abbrev pub LooksAtRows : UndoScan → TableMaps → EventView → RowsEventData → RowsLook → Type 0
LooksAtRows scan maps event rows look = LooksIfAny (event_in rows).rows scan maps event rows look

-- ---- compressed rows

-- Of an event that was compressed, of whose body this was read.
abbrev pub LooksAtRead : UndoScan → TableMaps → EventView → Result (Option EventData) Error → RowsLook → Type 0
LooksAtRead scan maps event (Ok (Some (mysql.RowsEvent rows))) look = LooksAtRows scan maps event rows look
LooksAtRead scan maps event (Err Memory) look = ⊥
LooksAtRead scan maps event read look = look ≡ Damaged

-- Of one that had this body.
abbrev pub LooksAtBody : UndoScan → TableMaps → EventView → List ℕ → RowsLook → Type 0
LooksAtBody scan maps event body look = (read : Result (Option EventData) Error) × ReadsUncompressed event body read × LooksAtRead scan maps event read look

-- Of one whose rows aren't given, for this reason: rows of more than 1 GiB are refused, and others can't be read.
abbrev pub LooksAtDenied : CompressionError → RowsLook → Type 0
LooksAtDenied compression.TooLong look = look ≡ Refused reasons.Compressed
LooksAtDenied compression.Memory look = ⊥
LooksAtDenied error look = look ≡ Damaged

-- What is seen of compressed rows.
abbrev pub LooksAtCompressed : UndoScan → TableMaps → EventView → RowsCompressedEvent → RowsLook → Type 0
LooksAtCompressed scan maps event compressed look =
    ((body : List ℕ) × IsUncompressed event compressed body × LooksAtBody scan maps event body look)
    ⊎ ((error : CompressionError) × Denies most_bytes error (event_in compressed.event).rows × LooksAtDenied error look)
