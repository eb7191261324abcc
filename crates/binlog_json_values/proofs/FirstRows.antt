-- The first of the rows into which bytes split.
use Rattle.std.proofs.Common.{◌≡◌, ℕ, ◌+◌, ◌<◌, List, ◌∷◌, length, Result, Ok}
use Rattle.binlog_wire.specs.Fields.{IsBytes}
use Rattle.binlog_images.specs.Cells.{RowsShape, RowCells}
use Rattle.binlog_images.specs.Splits.{row_at, first_row, AreRows}
use Rattle.binlog_images.specs.declared.rows_error.RowsError.{RowsError}
use Rattle.binlog_images.proofs.Splits.{taken_ok, is_row}

-- A row that is taken is the first of the rows of the bytes.
pub first_of_rows : (index : ℕ) (shape : RowsShape) (s r : List ℕ) (cells : RowCells) → IsBytes s → first_row index shape s ≡ Ok (cells, r)
    → IsBytes r × ((items : List (Result RowCells RowsError)) → AreRows shape (index + 1) r items → AreRows shape index s (Ok cells ∷ items))
first_of_rows index shape s r cells bytes is =
    let taken = taken_ok index (length s) (row_at index shape s) (cells, r) is in
    let first = is_row index shape s (cells, r) bytes taken.0 in
    (first.1, λ items more. (r, first.0, taken.1, more))

-- A row that is taken takes bytes.
pub fewer_left : (index : ℕ) (shape : RowsShape) (s r : List ℕ) (cells : RowCells) → first_row index shape s ≡ Ok (cells, r) → length r < length s
fewer_left index shape s r cells is = (taken_ok index (length s) (row_at index shape s) (cells, r) is).1
