-- Which changes of tables the events of a log are: of the log that is undone at its places, and of the log that is written.
use Rattle.std.specs.Prelude.{◌≡◌, ◌⊎◌, ℕ, List, [], ◌∷◌, ◌++◌, Some, Ok}
use Rattle.std.specs.List.{AllByRecursion, flat_map}
use Rattle.binlog_columns.specs.Refusals.{columns_in}
use Rattle.binlog_consts.specs.EventTypes.{event_number}
use Rattle.binlog_consts.specs.declared.event_type.EventType.TheVariants.{QUERY_EVENT, XID_EVENT, TABLE_MAP_EVENT}
use Rattle.binlog_event_data.specs.declared.event_data.EventData.TheVariants as mysql
use Rattle.binlog_event_format.specs.Headers.{header_of}
use Rattle.binlog_event_format.specs.PostHeaders.{post_header}
use Rattle.binlog_event_format.specs.declared.format_description.FormatDescriptionEvent.{FormatDescriptionEvent}
use Rattle.binlog_events.specs.Events.{EventView, ReadsEventData}
use Rattle.binlog_file.specs.LogData.{ReadsLogData}
use Rattle.binlog_file.specs.declared.log_data.LogEventData.TheVariants.{Mysql}
use Rattle.binlog_rows.specs.Rows.{rows}
use Rattle.binlog_rows.specs.RowsData.{event_in, form_in}
use Rattle.binlog_rows.specs.TableMaps.{table_map}
use Rattle.binlog_rows.specs.declared.rows_event_data.RowsEventData.{RowsEventData}
use Rattle.binlog_rows.specs.declared.table_map_event.TableMapEvent.{TableMapEvent}
use Rattle.binlog_undo.specs.EventChanges.{HasChanges}
use Rattle.binlog_undo.specs.InverseEvents.{type_of}
use Rattle.binlog_undo.specs.RowChanges.{TableRow}
use Rattle.binlog_undo_index.specs.Groups.{Kept}
use Rattle.binlog_undo_index.specs.declared.places.ChangePlace.{ChangePlace}
use Rattle.binlog_undo_log.specs.Compressed.{ReadsRows}
use Rattle.binlog_undo_log.specs.Places.{FramesOf, AtPlaces}
use Rattle.binlog_undo_log.specs.Undoing.{IsEventAt}
use Rattle.binlog_undo.specs.Transactions.{Event}
use Rattle.table_changes.specs.Changes.{Change}

-- A table, by its names.
pub record TableName : Type 0 where
  pub database : List ℕ
  pub table : List ℕ

abbrev pub name_of : TableMapEvent → TableName
name_of map = record { database = map.table.database_name; table = map.table.table_name }

abbrev pub LogChange : Type 0
LogChange = Change TableName TableRow

-- The rows are these changes of the table with this table map.
abbrev pub HasTableChanges : TableMapEvent → RowsEventData → List LogChange → Type 0
HasTableChanges map event changes = HasChanges (name_of map) (columns_in map.columns.types map.columns.metadata) event changes

-- ---- at the places of a log

-- The row event at a place is these changes of the table whose table map is at its place.
pub record IsChanged (is_at : FramesOf) (fde : FormatDescriptionEvent) (change : ChangePlace) (changes : List LogChange) : Type 0 where
  pub map_event : EventView
  pub map_at : IsEventAt is_at fde change.table_map map_event
  pub map : TableMapEvent
  pub map_read : ReadsEventData map_event (Ok (Some (mysql.TableMapEvent map)))
  pub event : EventView
  pub event_at : IsEventAt is_at fde change.rows event
  pub read : RowsEventData
  pub event_read : ReadsRows event read
  pub are : HasTableChanges map read changes

abbrev pub AreChanged : FramesOf → FormatDescriptionEvent → List ChangePlace → List LogChange → Type 0
AreChanged is_at fde [] changes = changes ≡ []
AreChanged is_at fde (change ∷ others) changes =
    (own : List LogChange) × (more : List LogChange) × IsChanged is_at fde change own × AreChanged is_at fde others more × (changes ≡ own ++ more)

-- A transaction with this last event is these changes.
pub record AreTransactionChanges (is_at : FramesOf) (fde : FormatDescriptionEvent) (last : ℕ) (changes : List ChangePlace) (own : List LogChange) : Type 0 where
  pub event : EventView
  pub event_at : IsEventAt is_at fde last event
  pub are : AtPlaces (λ (among : FramesOf) (d : FormatDescriptionEvent). AreChanged among d changes own) is_at fde event

-- The transactions are these changes, one transaction after the other.
abbrev pub AreKeptChanges : FramesOf → FormatDescriptionEvent → List Kept → List LogChange → Type 0
AreKeptChanges is_at fde [] changes = changes ≡ []
AreKeptChanges is_at fde (kept ∷ others) changes =
    (own : List LogChange) × (more : List LogChange) × AreTransactionChanges is_at fde kept.last kept.changes own × AreKeptChanges is_at fde others more × (changes ≡ own ++ more)

-- ---- pieces of a log

-- A piece of a log: an event beside rows, or a table map and rows, with their changes.
pub data LogPiece (E : Type 0) : Type 0 where
  beside : E → LogPiece E
  pair : (map_event rows_event : E) → List LogChange → LogPiece E

module _ {E : Type 0} where
  abbrev pub piece_events : LogPiece E → List E
  piece_events (beside event) = event ∷ []
  piece_events (pair map_event rows_event changes) = map_event ∷ rows_event ∷ []

  abbrev pub piece_changes : LogPiece E → List LogChange
  piece_changes (beside event) = []
  piece_changes (pair map_event rows_event changes) = changes

  -- `IsBeside` says which events are beside rows, and `ArePair` which changes a table map and rows are.
  abbrev pub IsPieceOf : (E → Type 0) → (E → E → List LogChange → Type 0) → LogPiece E → Type 0
  IsPieceOf IsBeside ArePair (beside event) = IsBeside event
  IsPieceOf IsBeside ArePair (pair map_event rows_event changes) = ArePair map_event rows_event changes

  -- The events are pieces, one after the other, and these are the changes of all pieces, in order.
  pub record ArePieces (IsBeside : E → Type 0) (ArePair : E → E → List LogChange → Type 0) (events : List E) (changes : List LogChange) : Type 0 where
    pub pieces : List (LogPiece E)
    pub each : AllByRecursion (IsPieceOf IsBeside ArePair) pieces
    pub events_are : events ≡ flat_map piece_events pieces
    pub changes_are : changes ≡ flat_map piece_changes pieces

-- ---- in a log that is written

-- A table map and rows behind it are these changes. Both bodies are read under this description.
pub record ArePairChanges (d : FormatDescriptionEvent) (map_event rows_event : Event) (changes : List LogChange) : Type 0 where
  pub map : TableMapEvent
  pub map_type : map_event.event_type ≡ TABLE_MAP_EVENT
  pub map_read : (table_map (post_header d TABLE_MAP_EVENT)).reads map_event.body ≡ Ok (map, [])
  pub event : RowsEventData
  pub event_type : rows_event.event_type ≡ type_of event
  pub event_read : (rows (form_in event) (post_header d (type_of event))).spells rows_event.body (event_in event) []
  pub are : HasTableChanges map event changes

-- The event is a statement, or the end of a transaction.
abbrev pub IsBesideRows : Event → Type 0
IsBesideRows event = (event.event_type ≡ QUERY_EVENT) ⊎ (event.event_type ≡ XID_EVENT)

-- The events are these changes.
abbrev pub AreLogChanges : FormatDescriptionEvent → List Event → List LogChange → Type 0
AreLogChanges d events changes = ArePieces IsBesideRows (ArePairChanges d) events changes

-- ---- in a log that is read

-- A table map and rows behind it are read so, and are these changes.
pub record AreReadPair (map_event rows_event : EventView) (changes : List LogChange) : Type 0 where
  pub map : TableMapEvent
  pub map_read : ReadsLogData map_event (Ok (Some (Mysql (mysql.TableMapEvent map))))
  pub event : RowsEventData
  pub event_read : ReadsLogData rows_event (Ok (Some (Mysql (mysql.RowsEvent event))))
  pub are : HasTableChanges map event changes

abbrev pub IsReadBeside : EventView → Type 0
IsReadBeside event = ((header_of event.frame).event_type ≡ event_number QUERY_EVENT) ⊎ ((header_of event.frame).event_type ≡ event_number XID_EVENT)

-- The events of a log, as they are read, are these changes.
abbrev pub AreReadChanges : List EventView → List LogChange → Type 0
AreReadChanges events changes = ArePieces IsReadBeside AreReadPair events changes
