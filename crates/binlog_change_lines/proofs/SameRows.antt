-- The rows of an event.
use Rattle.std.proofs.Common.{◌≡◌, ℕ, Bool, true, List, Option, None, Result, sym, ◌∙◌}
use Rattle.json.specs.Token.{Token}
use Rattle.binlog_images.proofs.Splits.{one_way}
use Rattle.binlog_images.specs.Cells.{RowCells, shape_as}
use Rattle.binlog_images.specs.EventRows.{is_partial}
use Rattle.binlog_images.specs.Events.{mapped_columns, event_shape}
use Rattle.binlog_images.specs.Splits.{AreRows}
use Rattle.binlog_images.specs.declared.rows_error.RowsError.{RowsError}
use Rattle.binlog_rows.specs.RowsData.{event_in}
use Rattle.binlog_rows.specs.declared.rows_event_data.RowsEventData.{RowsEventData}
use Rattle.binlog_rows.specs.declared.table_map_event.TableMapEvent.{TableMapEvent}
use Rattle.binlog_json_lines.specs.RowMembers.{rows_error, AreReadRows}
use Rattle.column_files.specs.declared.tables.DeclaredTables.{DeclaredTables}
use Rattle.binlog_change_lines.specs.RowLines.{AllAreRead}

-- An event has one list of rows.
pub same_items : (body : RowsEventData) (map : TableMapEvent) (items others : List (Result RowCells RowsError)) → AreRows (shape_as (is_partial body) (event_shape (mapped_columns map) (event_in body))) 0 (event_in body).rows items
    → AreRows (shape_as (is_partial body) (event_shape (mapped_columns map) (event_in body))) 0 (event_in body).rows others → items ≡ others
same_items body map items others one other = one_way items others (shape_as (is_partial body) (event_shape (mapped_columns map) (event_in body))) 0 (event_in body).rows one other

pub all_rows : (files : List DeclaredTables) (is_maria_log : Bool) (body : RowsEventData) (map : TableMapEvent) (all_read : Bool) (found : Option ℕ) (tokens : List Token)
    → rows_error map body ≡ None → (full : AreReadRows files is_maria_log (is_partial body) map (event_in body) (record { all_read = all_read; contradiction = found }) tokens) → all_read ≡ true → AllAreRead body map full.items
all_rows files is_maria_log body map all_read found tokens fits full all = record { fits = fits; split = full.split; all = sym full.all ∙ all }
