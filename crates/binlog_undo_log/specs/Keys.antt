-- The primary key that a table map states, and rows that are undone by it.
use Rattle.std.specs.Prelude.{◌≡◌, ◌⊎◌, ◌↔◌, ℕ, Bool, true, false, List, [], map, take, Option, Some, None, Result, Ok, Err, IsTrue, if◌then◌else◌}
use Rattle.binlog_columns.specs.Metadata.{Typed}
use Rattle.binlog_events.specs.Events.{EventView}
use Rattle.binlog_mariadb.specs.Flavour.{IsMariaVersion}
use Rattle.binlog_optional_metadata.specs.AllFields.{AreFields, contents_of, last_field}
use Rattle.binlog_optional_metadata.specs.Counts.{counts_of}
use Rattle.binlog_optional_metadata.specs.Fields.{Content, numbers, indexed}
use Rattle.binlog_optional_metadata.specs.FieldsLeft.{FieldContent}
use Rattle.binlog_optional_metadata.specs.declared.class_counts.ClassCounts.{ClassCounts}
use Rattle.binlog_optional_metadata.specs.declared.field_type.OptionalMetadataFieldType.TheVariants.{SIMPLE_PRIMARY_KEY, PRIMARY_KEY_WITH_PREFIX}
use Rattle.binlog_consts.specs.declared.event_type.EventType.{EventType}
use Rattle.binlog_rows.specs.declared.rows_event_data.RowsEventData.{RowsEventData}
use Rattle.binlog_rows.specs.declared.table_map_event.TableMapEvent.{TableMapEvent}
use Rattle.binlog_undo.specs.InverseEvents.{GivesInverse, ChecksInverse}
use Rattle.binlog_undo.specs.declared.inverse_event.ForeignKeyChecks.{ForeignKeyChecks}
use Rattle.binlog_undo.specs.declared.inverse_event.InverseEvent.{InverseEvent}
use Rattle.binlog_undo.specs.declared.undo_error.UndoError.{UndoError}
use Rattle.binlog_undo.specs.declared.undo_error.UndoError.TheVariants as errors

-- The field states the primary key: the indexes of its columns, some with the length of a prefix.
abbrev pub states_key : Content → Bool
states_key (numbers SIMPLE_PRIMARY_KEY columns) = true
states_key (indexed PRIMARY_KEY_WITH_PREFIX columns) = true
states_key _ = false

-- One more field, which counts in place of an earlier one if it is read and states the primary key.
abbrev pub newer_key : Option Content → FieldContent → Option Content
newer_key found (Ok field) = if states_key field then Some field else found
newer_key found (Err error) = found

-- The indexes of the columns of the primary key that a field states.
abbrev pub key_of : Option Content → List ℕ
key_of (Some (numbers SIMPLE_PRIMARY_KEY columns)) = columns
key_of (Some (indexed PRIMARY_KEY_WITH_PREFIX columns)) = map (λ (column : ℕ × ℕ). column.0) columns
key_of _ = []

-- The last field of the bytes that states the primary key is this one.
pub record LeavesKey (counts : ClassCounts) (s : List ℕ) (key : Option Content) : Type 0 where
  pub fields : List FieldContent
  pub are : AreFields counts s fields
  pub last : key ≡ last_field states_key (contents_of fields)

-- The table map states these indexes of columns of a primary key; none if it states no primary key.
pub record IsKey (is_maria_log : Bool) (columns : List Typed) (table_map : TableMapEvent) (key : List ℕ) : Type 0 where
  pub field : Option Content
  pub leaves : LeavesKey (counts_of is_maria_log columns) table_map.columns.optional_metadata field
  pub is : key ≡ key_of field

-- Where the images lack columns without a primary key, the one that the table map states is the key.
pub record GivesWithKey (is_maria_log : Bool) (table_map : TableMapEvent) (columns : List Typed) (checks : ForeignKeyChecks) (rows : RowsEventData) (answer : Result InverseEvent UndoError) : Type 0 where
  pub lacks : GivesInverse [] columns checks rows (Err errors.Image)
  pub key : List ℕ
  pub is_key : IsKey is_maria_log columns table_map key
  pub gives : GivesInverse key columns checks rows answer

-- The images don't lack columns.
abbrev pub GivesAtOnce : List Typed → ForeignKeyChecks → RowsEventData → Result InverseEvent UndoError → Type 0
GivesAtOnce columns checks rows (Err errors.Image) = ⊥
GivesAtOnce columns checks rows answer = GivesInverse [] columns checks rows answer

-- The rows are undone: without a primary key, or, where they need one, with that of the table map.
abbrev pub GivesByKey : Bool → TableMapEvent → List Typed → ForeignKeyChecks → RowsEventData → Result InverseEvent UndoError → Type 0
GivesByKey is_maria_log table_map columns checks rows answer =
    GivesWithKey is_maria_log table_map columns checks rows answer ⊎ GivesAtOnce columns checks rows answer

-- The same of a check, which answers the type of the event that undoes the rows.
pub record ChecksWithKey (is_maria_log : Bool) (table_map : TableMapEvent) (columns : List Typed) (rows : RowsEventData) (answer : Result EventType UndoError) : Type 0 where
  pub lacks : ChecksInverse [] columns rows (Err errors.Image)
  pub key : List ℕ
  pub is_key : IsKey is_maria_log columns table_map key
  pub gives : ChecksInverse key columns rows answer

abbrev pub ChecksAtOnce : List Typed → RowsEventData → Result EventType UndoError → Type 0
ChecksAtOnce columns rows (Err errors.Image) = ⊥
ChecksAtOnce columns rows answer = ChecksInverse [] columns rows answer

abbrev pub ChecksByKey : Bool → TableMapEvent → List Typed → RowsEventData → Result EventType UndoError → Type 0
ChecksByKey is_maria_log table_map columns rows answer = ChecksWithKey is_maria_log table_map columns rows answer ⊎ ChecksAtOnce columns rows answer

-- The event is of a log of MariaDB's.
abbrev pub IsMariaEvent : EventView → Bool → Type 0
IsMariaEvent event is_maria_log = IsTrue is_maria_log ↔ IsMariaVersion (take 50 event.fde.server_version)
