-- Which changes the rows of a row event are.
use Rattle.std.specs.Prelude.{◌≡◌, List, map, Ok}
use Rattle.binlog_columns.specs.Metadata.{Typed}
use Rattle.binlog_rows.specs.RowsData.{event_in}
use Rattle.binlog_rows.specs.declared.rows_event_data.RowsEventData.{RowsEventData}
use Rattle.binlog_images.specs.Cells.{RowCells, shape_as}
use Rattle.binlog_images.specs.EventRows.{is_partial}
use Rattle.binlog_images.specs.Events.{event_shape}
use Rattle.binlog_images.specs.Splits.{AreRows}
use Rattle.table_changes.specs.Changes.{Change}
use Rattle.binlog_undo.specs.RowChanges.{TableRow, row_changes}

-- All rows of the event can be read with these columns of its table, and they are these changes of the table.
pub record HasChanges {Table : Type 0} (table : Table) (columns : List Typed) (event : RowsEventData) (changes : List (Change Table TableRow)) : Type 0 where
  pub rows : List RowCells
  pub are : AreRows (shape_as (is_partial event) (event_shape columns (event_in event))) 0 (event_in event).rows (map (λ row. Ok row) rows)
  pub is : changes ≡ row_changes table rows
