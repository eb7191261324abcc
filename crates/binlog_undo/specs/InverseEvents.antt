-- The row event that undoes another one, part by part.
use Rattle.std.specs.Prelude.{◌≡◌, ℕ, Bool, true, false, List, [], option_map, bit_or, Result, Ok, Err}
use Rattle.binlog_consts.specs.declared.event_type.EventType.{EventType}
use Rattle.binlog_consts.specs.declared.event_type.EventType.TheVariants.{WRITE_ROWS_EVENT_V1, UPDATE_ROWS_EVENT_V1, DELETE_ROWS_EVENT_V1, WRITE_ROWS_EVENT, UPDATE_ROWS_EVENT, DELETE_ROWS_EVENT, PARTIAL_UPDATE_ROWS_EVENT}
use Rattle.binlog_columns.specs.Metadata.{Typed}
use Rattle.binlog_rows.specs.Forms.{default_length}
use Rattle.binlog_rows.specs.Rows.{rows}
use Rattle.binlog_rows.specs.RowsData.{event_in, form_in, data_written}
use Rattle.binlog_rows.specs.declared.rows_head.RowsHead.{RowsHead}
use Rattle.binlog_rows.specs.declared.rows_columns.RowsColumns.{RowsColumns}
use Rattle.binlog_rows.specs.declared.rows_event.RowsEvent.{RowsEvent}
use Rattle.binlog_rows.specs.declared.rows_event_data.RowsEventData.{RowsEventData}
use Rattle.binlog_rows.specs.declared.rows_event_data.RowsEventData.TheVariants as types
use Rattle.binlog_undo.specs.UndoneEvents.{Undone, UndoesRows, GivesUndone}
use Rattle.binlog_undo.specs.declared.inverse_event.ForeignKeyChecks.{ForeignKeyChecks}
use Rattle.binlog_undo.specs.declared.inverse_event.ForeignKeyChecks.TheVariants.{AsLogged, Off}
use Rattle.binlog_undo.specs.declared.inverse_event.InverseEvent.{InverseEvent}
use Rattle.binlog_undo.specs.declared.undo_error.UndoError.{UndoError}

-- ---- the parts

-- The flag 1 ends a statement, and the flag 2 turns the checks of foreign keys off.
abbrev pub added_flags : ForeignKeyChecks → ℕ
added_flags AsLogged = 1
added_flags Off = 3

-- The same table; the flags with these added; no extra bytes.
abbrev pub inverse_head : ForeignKeyChecks → RowsHead → RowsHead
inverse_head checks head = record { table_id = head.table_id; flags = bit_or head.flags (added_flags checks); extra = option_map (λ bytes. []) head.extra }

-- The columns of the images are exchanged, or both images have those of the image before.
abbrev pub inverse_columns : Bool → RowsColumns → RowsColumns
inverse_columns false columns = record { count = columns.count; before = columns.after; after = columns.before }
inverse_columns true columns = record { count = columns.count; before = columns.before; after = columns.before }

-- ---- the event

-- The event with these rows, whose images are completed or are exchanged.
abbrev pub inverse_parts : Bool → ForeignKeyChecks → List ℕ → RowsEvent → RowsEvent
inverse_parts completed checks undone event = record { head = inverse_head checks event.head; columns = inverse_columns completed event.columns; rows = undone }

-- Inserted rows become deleted ones, and the other way round. Updated rows stay updated ones, and are whole.
abbrev pub inverse_event : Bool → ForeignKeyChecks → List ℕ → RowsEventData → RowsEventData
inverse_event completed checks undone (types.WriteRowsEventV1 event) = types.DeleteRowsEventV1 (inverse_parts completed checks undone event)
inverse_event completed checks undone (types.UpdateRowsEventV1 event) = types.UpdateRowsEventV1 (inverse_parts completed checks undone event)
inverse_event completed checks undone (types.DeleteRowsEventV1 event) = types.WriteRowsEventV1 (inverse_parts completed checks undone event)
inverse_event completed checks undone (types.WriteRowsEvent event) = types.DeleteRowsEvent (inverse_parts completed checks undone event)
inverse_event completed checks undone (types.UpdateRowsEvent event) = types.UpdateRowsEvent (inverse_parts completed checks undone event)
inverse_event completed checks undone (types.DeleteRowsEvent event) = types.WriteRowsEvent (inverse_parts completed checks undone event)
inverse_event completed checks undone (types.PartialUpdateRowsEvent event) = types.UpdateRowsEvent (inverse_parts completed checks undone event)

-- ---- its type

-- The type of a row event.
abbrev pub type_of : RowsEventData → EventType
type_of (types.WriteRowsEventV1 event) = WRITE_ROWS_EVENT_V1
type_of (types.UpdateRowsEventV1 event) = UPDATE_ROWS_EVENT_V1
type_of (types.DeleteRowsEventV1 event) = DELETE_ROWS_EVENT_V1
type_of (types.WriteRowsEvent event) = WRITE_ROWS_EVENT
type_of (types.UpdateRowsEvent event) = UPDATE_ROWS_EVENT
type_of (types.DeleteRowsEvent event) = DELETE_ROWS_EVENT
type_of (types.PartialUpdateRowsEvent event) = PARTIAL_UPDATE_ROWS_EVENT

-- The type of the event that undoes this one.
abbrev pub inverse_type : RowsEventData → EventType
inverse_type (types.WriteRowsEventV1 event) = DELETE_ROWS_EVENT_V1
inverse_type (types.UpdateRowsEventV1 event) = UPDATE_ROWS_EVENT_V1
inverse_type (types.DeleteRowsEventV1 event) = WRITE_ROWS_EVENT_V1
inverse_type (types.WriteRowsEvent event) = DELETE_ROWS_EVENT
inverse_type (types.UpdateRowsEvent event) = UPDATE_ROWS_EVENT
inverse_type (types.DeleteRowsEvent event) = WRITE_ROWS_EVENT
inverse_type (types.PartialUpdateRowsEvent event) = UPDATE_ROWS_EVENT

-- ---- what undoes an event

-- The second event undoes the first one, of a table with these columns and this primary key.
pub record UndoesEvent (key : List ℕ) (columns : List Typed) (checks : ForeignKeyChecks) (event inverse : RowsEventData) : Type 0 where
  pub undone : Undone
  pub undoes : UndoesRows key columns event undone
  pub is : inverse ≡ inverse_event undone.completes checks undone.bytes event

-- It is written with its type, and its body is read as exactly this event.
pub record IsWritten (event : RowsEventData) (written : InverseEvent) : Type 0 where
  pub event_type : written.event_type ≡ type_of event
  pub body : written.body.items ≡ data_written event
  pub is_read : (rows (form_in event) (default_length (form_in event))).spells written.body.items (event_in event) []

-- The event that undoes this one is written; or why it can't be undone.
abbrev pub GivesInverse : List ℕ → List Typed → ForeignKeyChecks → RowsEventData → Result InverseEvent UndoError → Type 0
GivesInverse key columns checks event (Ok written) = (inverse : RowsEventData) × UndoesEvent key columns checks event inverse × IsWritten inverse written
GivesInverse key columns checks event (Err error) = GivesUndone key columns event (Err error)

-- There is an event of this type that undoes this one, whether foreign keys are checked then or not; or why it can't be undone.
abbrev pub ChecksInverse : List ℕ → List Typed → RowsEventData → Result EventType UndoError → Type 0
ChecksInverse key columns event (Ok event_type) =
    (checks : ForeignKeyChecks) → (inverse : RowsEventData) × UndoesEvent key columns checks event inverse × (event_type ≡ type_of inverse)
ChecksInverse key columns event (Err error) = GivesUndone key columns event (Err error)
