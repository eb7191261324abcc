-- The bytes that undo the rows of an event.
use Rattle.std.specs.Prelude.{◌≡◌, ℕ, List, [], ◌∷◌, ◌++◌, map, reverse, Ok, Err}
use Rattle.std.specs.List.{AllZip, flat_map}
use Rattle.binlog_images.specs.Cells.{RowShape, RowCells, whole}
use Rattle.binlog_images.specs.Splits.{AreRows}
use Rattle.binlog_images.specs.declared.rows_error.RowsError.{RowsError}
use Rattle.binlog_images.specs.declared.stored_row.StoredRow.{StoredRow}
use Rattle.binlog_undo.specs.RowBytes.{RowBytes, row_bytes, AreRowBytes}

-- Each row of the bytes is undone by other bytes, the last row first. `IsUndoneBy` says which bytes undo those of a row.
pub record Undoes (IsUndoneBy : RowBytes → RowBytes → Type 0) (shape : RowShape) (s undoing : List ℕ) : Type 0 where
  pub rows : List RowCells
  -- The bytes of each row, and those that undo it.
  pub bytes : List RowBytes
  pub others : List RowBytes
  pub are : AreRowBytes shape s bytes rows
  pub each : AllZip IsUndoneBy bytes others
  pub all : undoing ≡ flat_map row_bytes (reverse others)

-- The bytes are rows, from this index on, up to one that is refused.
pub record IsRefused (shape : RowShape) (index : ℕ) (s : List ℕ) (error : RowsError) : Type 0 where
  pub rows : List RowCells
  pub are : AreRows (whole shape) index s (map (λ row. Ok row) rows ++ Err error ∷ [])

-- The bytes of a row, with the images exchanged.
abbrev pub IsExchangedBy : RowBytes → RowBytes → Type 0
IsExchangedBy bytes others = (others.before ≡ bytes.after) × (others.after ≡ bytes.before)

-- The bytes of a row that was taken.
abbrev pub stored_bytes : StoredRow → RowBytes
stored_bytes stored = record { before = stored.before.now; after = stored.after.now }
