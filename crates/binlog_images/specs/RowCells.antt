-- Rows as contracts see them.
use Rattle.std.specs.Prelude.{ℕ, List, option_map, Result, Ok, Err}
use Rattle.std.specs.Borrow.{Bor}
use Rattle.binlog_images.specs.Cells.{RowCells}
use Rattle.binlog_images.specs.ImageCells.{cells_of}
use Rattle.binlog_images.specs.declared.row.Row.{Row}
use Rattle.binlog_images.specs.declared.rows_error.RowsError.{RowsError}

-- The columns of the row's images.
abbrev pub row_cells : Row → RowCells
row_cells row = (option_map cells_of row.before, option_map cells_of row.after)

-- An answer, with the columns of its row.
abbrev pub answer_row : Result Row RowsError → Result RowCells RowsError
answer_row (Ok row) = Ok (row_cells row)
answer_row (Err e) = Err e

-- The same, with the bytes after the row.
abbrev pub answer_first : Result (Row × Bor (List ℕ)) RowsError → Result (RowCells × List ℕ) RowsError
answer_first (Ok x) = Ok (row_cells x.0, x.1.now)
answer_first (Err e) = Err e
