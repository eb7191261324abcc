-- The image before of the first row that is left.
use Rattle.std.specs.Prelude.{ℕ, List, [], Result, Ok, Err}
use Rattle.binlog_images.specs.Cells.{Cell, RowCells}
use Rattle.binlog_images.specs.RowsLeft.{row_shape}
use Rattle.binlog_images.specs.Splits.{first_row}
use Rattle.binlog_images.specs.declared.rows.Rows.{Rows}
use Rattle.binlog_images.specs.declared.rows_error.RowsError.{RowsError}
use Rattle.binlog_json_values.specs.Rows.{before_or_none}

-- Its columns; none if the row is refused, or has no such image.
abbrev pub before_in : Result (RowCells × List ℕ) RowsError → List Cell
before_in (Ok x) = before_or_none x.0.0
before_in (Err e) = []

abbrev pub cells_before : Rows → List Cell
cells_before rows = before_in (first_row rows.row (row_shape rows) rows.rest.now)
