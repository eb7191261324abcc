-- What calls that undo rows answer.
use Rattle.std.specs.Prelude.{◌≡◌, ◌++◌, ◌⊎◌, List, ℕ, false, Some, Result, Ok, Err}
use Rattle.std.specs.Global.{Vec}
use Rattle.binlog_columns.specs.TableColumns.{columns_of}
use Rattle.binlog_rows.specs.Images.{bitmap_of}
use Rattle.binlog_images.specs.Cells.{RowsShape, whole}
use Rattle.binlog_images.specs.Images.{image_at}
use Rattle.binlog_images.specs.RowsLeft.{row_shape}
use Rattle.binlog_images.specs.Stored.{IsFault}
use Rattle.binlog_images.specs.declared.rows.Rows.{Rows}
use Rattle.binlog_images.specs.declared.stored_row.StoredRow.{StoredRow}
use Rattle.binlog_undo.specs.Completion.{IsCompletedBy}
use Rattle.binlog_undo.specs.RowBytes.{RowBytes, row_bytes}
use Rattle.binlog_undo.specs.Undoing.{Undoes, IsRefused, IsExchangedBy, stored_bytes}
use Rattle.binlog_undo.specs.declared.undo_error.UndoError.{UndoError}
use Rattle.binlog_undo.specs.declared.undo_error.UndoError.TheVariants as errors
use Rattle.binlog_undo.specs.declared.undoing.Undoing.{Undoing}
use Rattle.binlog_undo.specs.declared.undoing.Undoing.TheVariants.{Exchange, Complete}

-- Which bytes undo those of a row.
abbrev pub undone_by : Undoing → RowBytes → RowBytes → Type 0
undone_by Exchange = IsExchangedBy
undone_by (Complete images) = IsCompletedBy (columns_of images.columns) (bitmap_of images.before) (bitmap_of images.after)

-- The rows are whole, and have these images.
abbrev pub Fits : Undoing → RowsShape → Type 0
Fits Exchange shape = shape.is_partial ≡ false
Fits (Complete images) shape = shape ≡ whole (Some (columns_of images.columns, bitmap_of images.before), Some (columns_of images.columns, bitmap_of images.after))

-- An image of the row can't be read.
abbrev pub IsUnreadable : Undoing → StoredRow → Type 0
IsUnreadable Exchange row = ⊥
IsUnreadable (Complete images) row =
    IsFault (image_at (columns_of images.columns, bitmap_of images.before) row.before.now) ⊎ IsFault (image_at (columns_of images.columns, bitmap_of images.after) row.after.now)

-- Bytes that undo the row are in front of the others.
pub record IsPrepended (undoing : Undoing) (row : StoredRow) (old new : List ℕ) : Type 0 where
  pub others : RowBytes
  pub undone : undone_by undoing (stored_bytes row) others
  pub bytes : new ≡ row_bytes others ++ old

-- So they are; or an image of the row can't be read; or memory was refused.
abbrev pub PrependsRow : Undoing → StoredRow → List ℕ → List ℕ → Result (Unit {0}) UndoError → Type 0
PrependsRow undoing row old new (Ok done) = IsPrepended undoing row old new
PrependsRow undoing row old new (Err errors.Image) = IsUnreadable undoing row
PrependsRow undoing row old new (Err errors.Memory) = Unit {0}
PrependsRow undoing row old new (Err _) = ⊥

-- The bytes undo the rows that are left; or the first fault of a row is the answer; or memory was refused.
abbrev pub GivesUndoing : (RowBytes → RowBytes → Type 0) → Rows → Result (Vec ℕ) UndoError → Type 0
GivesUndoing IsUndoneBy rows (Ok bytes) = Undoes IsUndoneBy (row_shape rows).images rows.rest.now bytes.items
GivesUndoing IsUndoneBy rows (Err (errors.Rows error)) = IsRefused (row_shape rows).images rows.row rows.rest.now error
GivesUndoing IsUndoneBy rows (Err errors.Memory) = Unit {0}
GivesUndoing IsUndoneBy rows (Err _) = ⊥
