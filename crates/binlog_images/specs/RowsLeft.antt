-- The state of an iteration over rows, and what one call of `next` does to it.
use Rattle.std.specs.Prelude.{◌≡◌, ◌+◌, [], option_map, is_some, Option, None, Some, Result, Ok, Err}
use Rattle.binlog_images.specs.Cells.{RowsShape, shape_as}
use Rattle.binlog_images.specs.ImageShapes.{shape_of}
use Rattle.binlog_images.specs.RowCells.{row_cells}
use Rattle.binlog_images.specs.Splits.{first_row}
use Rattle.binlog_images.specs.declared.row.Row.{Row}
use Rattle.binlog_images.specs.declared.rows.Rows.{Rows}
use Rattle.binlog_images.specs.declared.rows_error.RowsError.{RowsError}

-- The images that each row has.
abbrev pub row_shape : Rows → RowsShape
row_shape rows = shape_as (is_some rows.json_columns) (option_map shape_of rows.before, option_map shape_of rows.after)

-- One call gives the first row that is left, and leaves the bytes after it; or its refusal, after which no bytes are left
-- and all else is as before; or None where nothing is left.
abbrev pub GivesRow : Rows → Option (Result Row RowsError) → Rows → Type 0
GivesRow old None new = (old.rest.now ≡ []) × (new ≡ old)
GivesRow old (Some (Ok row)) new = (first_row old.row (row_shape old) old.rest.now ≡ Ok (row_cells row, new.rest.now))
    × (new.row ≡ old.row + 1) × (row_shape new ≡ row_shape old)
GivesRow old (Some (Err e)) new = (¬ (old.rest.now ≡ [])) × (first_row old.row (row_shape old) old.rest.now ≡ Err e) × (new.rest.now ≡ [])
    × (new.row ≡ old.row) × (row_shape new ≡ row_shape old)
