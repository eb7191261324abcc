-- Rows with the bytes of their images.
use Rattle.std.specs.Prelude.{◌≡◌, ◌+◌, ◌<◌, ℕ, List, [], length, Option, None, Some, Result, Ok, Err}
use Rattle.binlog_images.specs.Cells.{RowsShape}
use Rattle.binlog_images.specs.Images.{image_if_at}
use Rattle.binlog_images.specs.RowCells.{row_cells}
use Rattle.binlog_images.specs.RowsLeft.{row_shape}
use Rattle.binlog_images.specs.Splits.{after_at, first_row}
use Rattle.binlog_images.specs.StoredColumns.{front}
use Rattle.binlog_images.specs.declared.rows.Rows.{Rows}
use Rattle.binlog_images.specs.declared.rows_error.ImageKind.TheVariants.{Before}
use Rattle.binlog_images.specs.declared.rows_error.RowsError.{RowsError}
use Rattle.binlog_images.specs.declared.stored_row.StoredRow.{StoredRow}

-- The first row of the bytes is this one, with the bytes of its images, and these bytes are left behind it.
pub record IsStored (index : ℕ) (shape : RowsShape) (s : List ℕ) (stored : StoredRow) (rest : List ℕ) : Type 0 where
  -- The bytes behind the image before.
  pub behind : List ℕ
  pub before : image_if_at index Before shape.images.0 s ≡ Ok ((row_cells stored.row).0, behind)
  pub after : after_at index shape behind ≡ Ok ((row_cells stored.row).1, rest)
  pub shorter : length rest < length s
  pub before_bytes : stored.before.now ≡ front s behind
  pub after_bytes : stored.after.now ≡ front behind rest

-- One call gives the first row that is left, and leaves the bytes after it; or its refusal, after which no bytes are left
-- and all else is as before; or None where nothing is left.
abbrev pub GivesStored : Rows → Option (Result StoredRow RowsError) → Rows → Type 0
GivesStored old None new = (old.rest.now ≡ []) × (new ≡ old)
GivesStored old (Some (Ok stored)) new = IsStored old.row (row_shape old) old.rest.now stored new.rest.now
    × (new.row ≡ old.row + 1) × (row_shape new ≡ row_shape old)
GivesStored old (Some (Err e)) new = (¬ (old.rest.now ≡ [])) × (first_row old.row (row_shape old) old.rest.now ≡ Err e) × (new.rest.now ≡ [])
    × (new.row ≡ old.row) × (row_shape new ≡ row_shape old)
