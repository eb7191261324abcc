-- The members `table`, `metadata` and `rows` of the object of a row event.
use Rattle.std.specs.Prelude.{◌≡◌, ◌↔◌, ◌==◌, ℕ, Bool, false, IsTrue, List, [], ◌∷◌, ◌++◌, codes, take, Option, None, Some, Result, if◌then◌else◌}
use Rattle.json.specs.Token.{Token, key, null}
use Rattle.json_line.specs.Tokens.{text_value, member}
use Rattle.binlog_events.specs.Events.{EventView}
use Rattle.binlog_rows.specs.RowsData.{event_in}
use Rattle.binlog_rows.specs.declared.rows_event.RowsEvent.{RowsEvent}
use Rattle.binlog_rows.specs.declared.rows_event_data.RowsEventData.{RowsEventData}
use Rattle.binlog_rows.specs.declared.table_map_event.TableMapEvent.{TableMapEvent}
use Rattle.binlog_images.specs.Cells.{RowCells, shape_as}
use Rattle.binlog_images.specs.Events.{mapped_columns, event_shape, event_error}
use Rattle.binlog_images.specs.EventRows.{is_partial}
use Rattle.binlog_images.specs.Splits.{AreRows}
use Rattle.binlog_images.specs.declared.rows.Rows.{Rows}
use Rattle.binlog_images.specs.declared.rows_error.RowsError.{RowsError}
use Rattle.binlog_images.specs.declared.rows_error.RowsEventError.{RowsEventError}
use Rattle.binlog_declared_columns.specs.Tables.{StatesBoth}
use Rattle.binlog_optional_metadata.specs.declared.column_facts.ColumnFacts.{ColumnFacts}
use Rattle.binlog_json_values.specs.Parts.{AreParts}
use Rattle.binlog_json_values.specs.Rows.{rows_parts}
use Rattle.binlog_json_values.specs.Written.{are_read, ShowsRows}
use Rattle.binlog_mariadb.specs.Flavour.{IsMariaVersion}
use Rattle.column_files.specs.declared.tables.DeclaredTables.{DeclaredTables}
use Rattle.binlog_json_lines.specs.declared.row_members.ShownRows.{ShownRows}
use Rattle.binlog_json_lines.specs.Refusals.{refusal_value, metadata_member}
use Rattle.binlog_optional_metadata.specs.declared.metadata_error.OptionalMetadataError.{OptionalMetadataError}
use Rattle.binlog_filters.specs.RowEvents.{rows_event_of}

-- The names of a table and of its schema.
abbrev pub schema_in : TableMapEvent → List ℕ
schema_in map = take 255 map.table.database_name

abbrev pub table_in : TableMapEvent → List ℕ
table_in map = take 255 map.table.table_name

-- The name of a table with that of its schema: a dot stands between.
abbrev pub name_of : TableMapEvent → List ℕ
name_of map = schema_in map ++ 46 ∷ table_in map

-- The table map, if it is of the table id of the event.
abbrev pub map_for : RowsEvent → Option TableMapEvent → Option TableMapEvent
map_for event None = None
map_for event (Some map) = if map.table.id == event.head.table_id then Some map else None

-- Why the rows of the event can't be read at all with this table map.
abbrev pub rows_error : TableMapEvent → RowsEventData → Option RowsEventError
rows_error map body = event_error map (event_in body)

-- Nothing is shown of rows.
abbrev pub nothing_shown : ShownRows
nothing_shown = record { all_read = false; contradiction = None }

-- What is known of the columns of a table with this table map: what that states, and what files declare besides.
abbrev pub StatesColumns : (files : List DeclaredTables) (is_maria_log : Bool) (map : TableMapEvent) → List ColumnFacts → Option OptionalMetadataError → (contradiction : Option ℕ) → Type 0
StatesColumns files is_maria_log map = StatesBoth files (schema_in map) (table_in map) is_maria_log (mapped_columns map) map.columns.optional_metadata

-- The tokens are the member `metadata`, if a field of the optional metadata is refused, and the member `rows` with the array of the
-- rows of the event, a row of the table of this table map each. There is exactly one such split of its bytes (`rows_are_split` of
-- `binlog_images`). The names, signs, members and character sets of columns are those that the optional metadata states, and else
-- those of the files, unless the table contradicts them. `shown` says at which column it does, and whether no row is refused: then
-- `rows` has all rows.
pub record AreReadRows (files : List DeclaredTables) (is_maria_log is_partial : Bool) (map : TableMapEvent) (event : RowsEvent) (shown : ShownRows) (tokens : List Token) : Type 0 where
  pub facts : List ColumnFacts
  pub refusal : Option OptionalMetadataError
  pub stated : StatesColumns files is_maria_log map facts refusal shown.contradiction
  pub items : List (Result RowCells RowsError)
  pub split : AreRows (shape_as is_partial (event_shape (mapped_columns map) event)) 0 event.rows items
  pub all : shown.all_read ≡ are_read items
  pub rows : List Token
  pub rows_are : AreParts (rows_parts facts items) rows
  pub are : tokens ≡ metadata_member refusal ++ member (codes "rows") rows

-- Such members are appended for these rows.
pub record ShowsStatedRows (files : List DeclaredTables) (is_maria_log : Bool) (map : TableMapEvent) (rows : Rows) (shown : ShownRows) (old new : List Token) : Type 0 where
  pub facts : List ColumnFacts
  pub refusal : Option OptionalMetadataError
  pub stated : StatesColumns files is_maria_log map facts refusal shown.contradiction
  pub appended : ShowsRows facts rows shown.all_read (old ++ metadata_member refusal ++ key (codes "rows") ∷ []) new

-- The members behind `table`: the rows and what is refused of the metadata, or what is in the place of rows that can't be read at
-- all. In these and in the relations below, `shown` says whether `rows` has all rows of the event, and which column of the table
-- contradicts the files.
abbrev pub AreRowsMembers : List DeclaredTables → Bool → RowsEventData → TableMapEvent → Option RowsEventError → (shown : ShownRows) → List Token → Type 0
AreRowsMembers files is_maria_log body map (Some error) shown tokens = (shown ≡ nothing_shown) × (tokens ≡ member (codes "rows") (refusal_value error))
AreRowsMembers files is_maria_log body map None shown tokens = AreReadRows files is_maria_log (is_partial body) map (event_in body) shown tokens

-- The members of an event without a table map in force.
abbrev pub unmapped_members : List Token
unmapped_members = member (codes "table") (null ∷ []) ++ member (codes "rows") (null ∷ [])

-- The members of a row event with this table map.
pub record AreMappedMembers (files : List DeclaredTables) (is_maria_log : Bool) (body : RowsEventData) (map : TableMapEvent) (shown : ShownRows) (tokens : List Token) : Type 0 where
  pub rows : List Token
  pub read : AreRowsMembers files is_maria_log body map (rows_error map body) shown rows
  pub are : tokens ≡ member (codes "table") (text_value (name_of map)) ++ rows

-- The members of a row event, with the table map in force for its table id.
abbrev pub AreEventMembers : List DeclaredTables → Bool → RowsEventData → Option TableMapEvent → (shown : ShownRows) → List Token → Type 0
AreEventMembers files is_maria_log body None shown tokens = (shown ≡ nothing_shown) × (tokens ≡ unmapped_members)
AreEventMembers files is_maria_log body (Some map) shown tokens = AreMappedMembers files is_maria_log body map shown tokens

-- Whether MariaDB wrote the log, by the server version of the description in force.
abbrev pub IsFlavour : EventView → Bool → Type 0
IsFlavour event is_maria_log = IsTrue is_maria_log ↔ IsMariaVersion (take 50 event.fde.server_version)

-- The members of a row event, or of none, with this table map.
abbrev pub AreBodyMembers : List DeclaredTables → Bool → Option TableMapEvent → Option RowsEventData → (shown : ShownRows) → List Token → Type 0
AreBodyMembers files is_maria_log map None shown tokens = (shown ≡ nothing_shown) × (tokens ≡ [])
AreBodyMembers files is_maria_log map (Some body) shown tokens = AreEventMembers files is_maria_log body (map_for (event_in body) map) shown tokens

-- The members of an event whose data is this row event, or none.
abbrev pub AreMembersOf : List DeclaredTables → EventView → Option TableMapEvent → Option RowsEventData → (shown : ShownRows) → List Token → Type 0
AreMembersOf files event map None shown tokens = (shown ≡ nothing_shown) × (tokens ≡ [])
AreMembersOf files event map (Some body) shown tokens =
    (is_maria_log : Bool) × IsFlavour event is_maria_log × AreBodyMembers files is_maria_log map (Some body) shown tokens

-- The members `table`, `metadata` and `rows` of an event, with this table map and these files of columns. An event that isn't a row
-- event has none.
abbrev pub AreMembers : List DeclaredTables → EventView → Option TableMapEvent → (shown : ShownRows) → List Token → Type 0
AreMembers files event map shown tokens = AreMembersOf files event map (rows_event_of event) shown tokens
