-- The lines of the rows of an event beside its whole line.
use Rattle.std.specs.Prelude.{◌≡◌, ℕ, Bool, List, ◌++◌, codes, Option, Some, None, Result, Ok}
use Rattle.json.specs.Print.{print}
use Rattle.json.specs.Token.{Token}
use Rattle.json_line.specs.Tokens.{member, object}
use Rattle.binlog_event_format.specs.Headers.{header_of}
use Rattle.binlog_events.specs.Events.{EventView}
use Rattle.binlog_file.specs.LogData.{ReadsLogData}
use Rattle.binlog_file.specs.declared.log_data.LogEventData.{LogEventData}
use Rattle.binlog_images.specs.Cells.{RowCells}
use Rattle.binlog_images.specs.declared.rows_error.RowsError.{RowsError}
use Rattle.binlog_rows.specs.declared.rows_event_data.RowsEventData.{RowsEventData}
use Rattle.binlog_rows.specs.declared.table_map_event.TableMapEvent.{TableMapEvent}
use Rattle.binlog_optional_metadata.specs.declared.column_facts.ColumnFacts.{ColumnFacts}
use Rattle.binlog_optional_metadata.specs.declared.metadata_error.OptionalMetadataError.{OptionalMetadataError}
use Rattle.binlog_json_values.specs.Parts.{AreParts}
use Rattle.binlog_json_values.specs.Rows.{rows_parts}
use Rattle.binlog_json_lines.specs.RowMembers.{StatesColumns, IsFlavour}
use Rattle.column_files.specs.declared.tables.DeclaredTables.{DeclaredTables}
use Rattle.binlog_change_lines.specs.EventTexts.{rows_in}
use Rattle.binlog_change_lines.specs.Heads.{Place, head_members}
use Rattle.binlog_change_lines.specs.RowLines.{AllAreRead, AreRowLines}

-- The tokens end with the member `rows`: the array of these rows, with what is known of the columns by the table map and the files.
pub record EndWithRows (files : List DeclaredTables) (is_maria_log : Bool) (map : TableMapEvent) (items : List (Result RowCells RowsError)) (tokens : List Token) : Type 0 where
  pub facts : List ColumnFacts
  pub refusal : Option OptionalMetadataError
  pub contradiction : Option ℕ
  pub stated : StatesColumns files is_maria_log map facts refusal contradiction
  pub front : List Token
  pub rows : List Token
  pub are : AreParts (rows_parts facts items) rows
  pub is : tokens ≡ front ++ member (codes "rows") rows

-- The line is an object with that member.
pub record HasRows (files : List DeclaredTables) (is_maria_log : Bool) (map : TableMapEvent) (items : List (Result RowCells RowsError)) (line : List ℕ) : Type 0 where
  pub front : List Token
  pub rows : EndWithRows files is_maria_log map items front
  pub behind : List Token
  pub is : line ≡ print (object (front ++ behind)) ++ codes "\n"

-- The text has a line for each of these rows.
pub record HasLines (files : List DeclaredTables) (is_maria_log : Bool) (place : Place) (time : ℕ) (body : RowsEventData) (map : TableMapEvent) (items : List (Result RowCells RowsError)) (text : List ℕ) : Type 0 where
  pub facts : List ColumnFacts
  pub refusal : Option OptionalMetadataError
  pub contradiction : Option ℕ
  pub stated : StatesColumns files is_maria_log map facts refusal contradiction
  pub lines : AreRowLines (head_members place time map body refusal) facts items text

-- All rows of the event are in the member `rows` of the line, and the text has a line for each of them.
pub record AreRowsOfLine (files : List DeclaredTables) (place : Place) (map : Option TableMapEvent) (event : EventView) (line text : List ℕ) : Type 0 where
  pub table : TableMapEvent
  pub mapped : map ≡ Some table
  pub is_maria_log : Bool
  pub flavour : IsFlavour event is_maria_log
  pub body : RowsEventData
  pub items : List (Result RowCells RowsError)
  pub read : AllAreRead body table items
  pub whole : HasRows files is_maria_log table items line
  pub each : HasLines files is_maria_log place (header_of event.frame).timestamp body table items text

-- The data of the event is read, and isn't that of a row event.
abbrev pub IsOfNoRows : EventView → Type 0
IsOfNoRows event = (read : LogEventData) × ReadsLogData event (Ok (Some read)) × (rows_in read ≡ None)
