-- What is shown of row events.
use Rattle.std.proofs.Common.{◌≡◌, ◌≢◌, ℕ, ◌==◌, Bool, true, false, List, length, Option, None, Some, Result, if◌then◌else◌, sym, ap, subst, ◌∙◌, arith}
use Rattle.std.proofs.lemmas.Bool.Decides.{nat_tests}
use Rattle.std.specs.Prelude.{nat_eq}
use Rattle.json.specs.Token.{Token}
use Rattle.binlog_columns.specs.Refusals.{refusal}
use Rattle.binlog_columns.specs.declared.column_error.ColumnError.{ColumnError}
use Rattle.binlog_images.proofs.Splits.{one_way}
use Rattle.binlog_images.specs.Cells.{RowCells, shape_as}
use Rattle.binlog_images.specs.EventRows.{is_partial, AreRowsOf}
use Rattle.binlog_images.specs.Events.{mapped_columns, event_shape, event_error, columns_error}
use Rattle.binlog_images.specs.Splits.{AreRows}
use Rattle.binlog_images.specs.declared.rows.Rows.{Rows}
use Rattle.binlog_images.specs.declared.rows_error.RowsError.{RowsError}
use Rattle.binlog_images.specs.declared.rows_error.RowsEventError.{RowsEventError}
use Rattle.binlog_images.specs.declared.rows_error.RowsEventError.TheVariants.{NoTableMap}
use Rattle.binlog_rows.specs.RowsData.{event_in}
use Rattle.binlog_rows.specs.declared.rows_event_data.RowsEventData.{RowsEventData}
use Rattle.binlog_rows.specs.declared.table_map_event.TableMapEvent.{TableMapEvent}
use Rattle.binlog_optional_metadata.specs.declared.column_facts.ColumnFacts.{ColumnFacts}
use Rattle.binlog_optional_metadata.specs.declared.metadata_error.OptionalMetadataError.{OptionalMetadataError}
use Rattle.binlog_json_values.specs.Written.{are_read}
use Rattle.binlog_json_lines.specs.RowMembers.{StatesColumns}
use Rattle.column_files.specs.declared.tables.DeclaredTables.{DeclaredTables}
use Rattle.binlog_change_lines.specs.Heads.{Place, head_members}
use Rattle.binlog_change_lines.specs.RowLines.{WritesRows, AllAreRead, AreLinesOfEvent}

-- Columns that are refused make rows that can't be read.
error_of : (is_same : Bool) (event table : ℕ) (id : ℕ) (error : ColumnError) → (if is_same then columns_error event table (Some error) else Some (NoTableMap id)) ≡ None → ⊥
error_of true event table id error none = cc
error_of false event table id error none = cc

pub refused_columns : (map : TableMapEvent) (body : RowsEventData) (error : ColumnError) → refusal 0 map.columns.types map.columns.metadata ≡ Some error
    → (items : List (Result RowCells RowsError)) → AllAreRead body map items → ⊥
refused_columns map body error is items all =
    let event = event_in body in
    error_of (event.head.table_id == map.table.id) event.columns.count (length map.columns.types) event.head.table_id error
    (subst (λ (e : Option ColumnError). (if event.head.table_id == map.table.id then columns_error event.columns.count (length map.columns.types) e else Some (NoTableMap event.head.table_id)) ≡ None) is all.fits)

-- The table map of another table.
pub other_table : (map : TableMapEvent) (body : RowsEventData) → (event_in body).head.table_id ≢ map.table.id → (items : List (Result RowCells RowsError)) → AllAreRead body map items → ⊥
other_table map body other items all =
    let no : nat_eq (event_in body).head.table_id map.table.id ≡ false = grind (arith, nat_tests) in
    let fits = rw no at all.fits in
    cc

-- An event that is refused.
pub refused_event : (map : TableMapEvent) (body : RowsEventData) (error : RowsEventError) → event_error map (event_in body) ≡ Some error
    → (items : List (Result RowCells RowsError)) → AllAreRead body map items → ⊥
refused_event map body error is items all = let fits = all.fits in cc

-- The split of the rows of an event.
split_of : (body : RowsEventData) (map : TableMapEvent) (head : List Token) (facts : List ColumnFacts) (rows : Rows) (all_read : Bool) (text : List ℕ) → AreRowsOf (is_partial body) map (event_in body) rows
    → (written : WritesRows head facts rows all_read text)
    → AreRows (shape_as (is_partial body) (event_shape (mapped_columns map) (event_in body))) 0 (event_in body).rows written.items
split_of body map head facts rows all_read text are written = rw (are.shape, are.first, are.bytes) at written.split

pub lines_shown : (files : List DeclaredTables) (is_maria_log : Bool) (place : Place) (time : ℕ) (body : RowsEventData) (map : TableMapEvent) (facts : List ColumnFacts) (refusal : Option OptionalMetadataError)
    (contradiction : Option ℕ) (rows : Rows) (all_read : Bool) (text : List ℕ) → event_error map (event_in body) ≡ None → AreRowsOf (is_partial body) map (event_in body) rows
    → StatesColumns files is_maria_log map facts refusal contradiction → all_read ≡ true → WritesRows (head_members place time map body refusal) facts rows all_read text
    → AreLinesOfEvent files is_maria_log place time body map contradiction text
lines_shown files is_maria_log place time body map facts refusal contradiction rows all_read text fits are stated is written = record {
  items = written.items;
  read = record { fits = fits; split = split_of body map (head_members place time map body refusal) facts rows all_read text are written; all = sym written.all ∙ is };
  facts = facts;
  refusal = refusal;
  stated = stated;
  lines = written.lines is;
}

pub row_refused : (body : RowsEventData) (map : TableMapEvent) (head : List Token) (facts : List ColumnFacts) (rows : Rows) (all_read : Bool) (text : List ℕ) → AreRowsOf (is_partial body) map (event_in body) rows
    → all_read ≡ false → WritesRows head facts rows all_read text → (items : List (Result RowCells RowsError)) → AllAreRead body map items → ⊥
row_refused body map head facts rows all_read text are is written items all =
    let split = split_of body map head facts rows all_read text are written in
    let same : written.items ≡ items = one_way written.items items (shape_as (is_partial body) (event_shape (mapped_columns map) (event_in body))) 0 (event_in body).rows split all.split in
    let no : false ≡ true = sym is ∙ written.all ∙ ap are_read same ∙ all.all in
    cc
