-- The lines of the rows of an event.
use Rattle.std.specs.Prelude.{◌≡◌, ℕ, Bool, true, false, List, [], ◌∷◌, ◌++◌, codes, Option, Some, None, Result, Ok, Err}
use Rattle.json.specs.Print.{print}
use Rattle.json.specs.Token.{Token, begin_object, end_object}
use Rattle.binlog_rows.specs.RowsData.{event_in}
use Rattle.binlog_rows.specs.declared.rows_event_data.RowsEventData.{RowsEventData}
use Rattle.binlog_rows.specs.declared.table_map_event.TableMapEvent.{TableMapEvent}
use Rattle.binlog_images.specs.Cells.{RowCells, shape_as}
use Rattle.binlog_images.specs.EventRows.{is_partial}
use Rattle.binlog_images.specs.Events.{mapped_columns, event_shape, event_error}
use Rattle.binlog_images.specs.RowsLeft.{row_shape}
use Rattle.binlog_images.specs.Splits.{AreRows}
use Rattle.binlog_images.specs.declared.rows.Rows.{Rows}
use Rattle.binlog_images.specs.declared.rows_error.RowsError.{RowsError}
use Rattle.binlog_optional_metadata.specs.declared.column_facts.ColumnFacts.{ColumnFacts}
use Rattle.binlog_optional_metadata.specs.declared.metadata_error.OptionalMetadataError.{OptionalMetadataError}
use Rattle.binlog_json_values.specs.Parts.{Part, exactly, exact, AreParts}
use Rattle.binlog_json_values.specs.Rows.{image_member, before_or_none}
use Rattle.binlog_json_values.specs.Written.{are_read}
use Rattle.binlog_json_lines.specs.RowMembers.{StatesColumns}
use Rattle.column_files.specs.declared.tables.DeclaredTables.{DeclaredTables}
use Rattle.binlog_change_lines.specs.Heads.{Place, head_members}

-- The images of a row, as in the row of a line of JSON.
abbrev pub images_parts : List ColumnFacts → RowCells → List Part
images_parts columns row =
    image_member (codes "before") columns (before_or_none row.0) row.0 ++ image_member (codes "after") columns (before_or_none row.0) row.1

-- The object of a row behind this head.
unfoldable pub change_parts : (head : List Token) → List ColumnFacts → RowCells → List Part
change_parts head columns row = exactly begin_object ∷ [] ++ exact head ++ images_parts columns row ++ exactly end_object ∷ []

-- The text is the line of a row: its object, and a line feed.
pub record IsRowLine (head : List Token) (columns : List ColumnFacts) (row : RowCells) (line : List ℕ) : Type 0 where
  pub tokens : List Token
  pub are : AreParts (change_parts head columns row) tokens
  pub is : line ≡ print tokens ++ codes "\n"

-- The line of a row is appended.
pub record AddsLine (head : List Token) (columns : List ColumnFacts) (row : RowCells) (old new : List ℕ) : Type 0 where
  pub line : List ℕ
  pub of_row : IsRowLine head columns row line
  pub is : new ≡ old ++ line

-- The same of an item of an iteration over rows, if it is a row.
abbrev pub AddsItem : (head : List Token) → List ColumnFacts → Result RowCells RowsError → (is_read : Bool) → (old new : List ℕ) → Type 0
AddsItem head columns (Ok row) is_read old new = (is_read ≡ true) × AddsLine head columns row old new
AddsItem head columns (Err error) is_read old new = is_read ≡ false

-- The text is the lines of rows one after another. A row that is refused has none.
abbrev pub AreRowLines : (head : List Token) → List ColumnFacts → List (Result RowCells RowsError) → (text : List ℕ) → Type 0
AreRowLines head columns [] text = text ≡ []
AreRowLines head columns (Ok row ∷ items) text =
    (line : List ℕ) × IsRowLine head columns row line × (others : List ℕ) × AreRowLines head columns items others × (text ≡ line ++ others)
AreRowLines head columns (Err error ∷ items) text = ⊥

-- The rows into which these bytes split, with their lines if none is refused.
pub record WritesRows (head : List Token) (columns : List ColumnFacts) (rows : Rows) (all_read : Bool) (text : List ℕ) : Type 0 where
  pub items : List (Result RowCells RowsError)
  pub split : AreRows (row_shape rows) rows.row rows.rest.now items
  pub all : all_read ≡ are_read items
  pub lines : all_read ≡ true → AreRowLines head columns items text

-- ---- events

-- All rows of the event can be read by this table map, and these are they.
pub record AllAreRead (body : RowsEventData) (map : TableMapEvent) (items : List (Result RowCells RowsError)) : Type 0 where
  pub fits : event_error map (event_in body) ≡ None
  pub split : AreRows (shape_as (is_partial body) (event_shape (mapped_columns map) (event_in body))) 0 (event_in body).rows items
  pub all : are_read items ≡ true

-- The same, of the table map in force for the event, if there is one.
abbrev pub AllAreReadBy : RowsEventData → Option TableMapEvent → List (Result RowCells RowsError) → Type 0
AllAreReadBy body None items = ⊥
AllAreReadBy body (Some map) items = AllAreRead body map items

-- The text is the lines of all rows of the event, where the names, signs, members and character sets of columns are those that the
-- table map states, and else those of the files, unless the table contradicts them at this column. Each line says which field of the
-- optional metadata is refused.
pub record AreLinesOfEvent (files : List DeclaredTables) (is_maria_log : Bool) (place : Place) (time : ℕ) (body : RowsEventData) (map : TableMapEvent)
    (contradiction : Option ℕ) (text : List ℕ) : Type 0 where
  pub items : List (Result RowCells RowsError)
  pub read : AllAreRead body map items
  pub facts : List ColumnFacts
  pub refusal : Option OptionalMetadataError
  pub stated : StatesColumns files is_maria_log map facts refusal contradiction
  pub lines : AreRowLines (head_members place time map body refusal) facts items text
