-- The number of the rows of a row event.
use Rattle.std.specs.Prelude.{◌≡◌, ◌≢◌, ◌⊎◌, ℕ, Bool, List, [], ◌∷◌, ◌++◌, length, map, Option, Some, None, Ok, Err}
use Rattle.binlog_rows.specs.declared.rows_event.RowsEvent.{RowsEvent}
use Rattle.binlog_rows.specs.declared.table_map_event.TableMapEvent.{TableMapEvent}
use Rattle.binlog_images.specs.Cells.{RowsShape, RowCells, shape_as}
use Rattle.binlog_images.specs.Events.{mapped_columns, event_shape, event_error}
use Rattle.binlog_images.specs.Splits.{AreRows}
use Rattle.binlog_images.specs.declared.rows_error.RowsError.{RowsError}

-- The bytes split into so many rows, from this index on; or a row is refused, behind some that aren't. There is exactly one such
-- split (`rows_are_split` of `binlog_images`).
abbrev pub HasRows : RowsShape → ℕ → List ℕ → Option ℕ → Type 0
HasRows shape index s (Some count) = (rows : List RowCells) × AreRows shape index s (map Ok rows) × (count ≡ length rows)
HasRows shape index s None = (rows : List RowCells) × (error : RowsError) × AreRows shape index s (map Ok rows ++ Err error ∷ [])

-- So many rows are in the event, whose table has this table map; None if they can't be read.
abbrev pub IsRowCount : (is_partial : Bool) → RowsEvent → TableMapEvent → Option ℕ → Type 0
IsRowCount is_partial event table_map (Some count) =
    (event_error table_map event ≡ None) × HasRows (shape_as is_partial (event_shape (mapped_columns table_map) event)) 0 event.rows (Some count)
IsRowCount is_partial event table_map None =
    (event_error table_map event ≢ None) ⊎ HasRows (shape_as is_partial (event_shape (mapped_columns table_map) event)) 0 event.rows None
