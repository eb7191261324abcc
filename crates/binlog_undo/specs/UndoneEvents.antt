-- The rows that undo a row event.
use Rattle.std.specs.Prelude.{◌≡◌, ℕ, Bool, true, false, List, map, length, Option, None, Some, Result, Ok, Err}
use Rattle.std.specs.List.{AllByRecursion}
use Rattle.binlog_columns.specs.Metadata.{Typed}
use Rattle.binlog_columns.specs.TableColumns.{columns_of}
use Rattle.binlog_rows.specs.Columns.{Bitmap}
use Rattle.binlog_rows.specs.Images.{bitmap_of}
use Rattle.binlog_rows.specs.RowsData.{event_in}
use Rattle.binlog_rows.specs.declared.rows_event_data.RowsEventData.{RowsEventData}
use Rattle.binlog_images.specs.Cells.{RowShape, RowCells, whole}
use Rattle.binlog_images.specs.EventRows.{is_partial}
use Rattle.binlog_images.specs.Events.{event_shape, count_error}
use Rattle.binlog_images.specs.Splits.{AreRows}
use Rattle.binlog_undo.specs.Completion.{IsCompletedBy}
use Rattle.binlog_undo.specs.Coverage.{can_undo, completes}
use Rattle.binlog_undo.specs.RowBytes.{RowBytes, exchanged_shape}
use Rattle.binlog_undo.specs.RowChanges.{inverse_rows, HasOldColumns}
use Rattle.binlog_undo.specs.Undoing.{Undoes, IsRefused, IsExchangedBy}
use Rattle.binlog_undo.specs.declared.undo_error.UndoError.{UndoError}
use Rattle.binlog_undo.specs.declared.undo_error.UndoError.TheVariants as errors
use Rattle.binlog_undo.specs.declared.undoing.Undoing.{Undoing}
use Rattle.binlog_undo.specs.declared.undoing.Undoing.TheVariants.{Exchange, Complete}
use Rattle.binlog_undo.specs.declared.undone_rows.UndoneRows.{UndoneRows}

-- The columns of the rows that undo those of an event: the images are exchanged, or both have the columns of the image before.
abbrev pub undone_shape : Bool → RowShape → RowShape
undone_shape false shape = exchanged_shape shape
undone_shape true shape = (shape.0, shape.0)

-- Which bytes undo those of a row.
abbrev pub completed_by : RowShape → RowBytes → RowBytes → Type 0
completed_by (Some before, Some after) = IsCompletedBy before.0 before.1 after.1
completed_by (None, after) = IsExchangedBy
completed_by (Some before, None) = IsExchangedBy

abbrev pub row_undone_by : Bool → RowShape → RowBytes → RowBytes → Type 0
row_undone_by false shape = IsExchangedBy
row_undone_by true shape = completed_by shape

-- The bytes are rows, and are undone by other bytes, which are the rows that undo them: so their changes are the inverse.
pub record IsUndone (completed : Bool) (shape : RowShape) (s undone : List ℕ) : Type 0 where
  pub rows : List RowCells
  pub are : AreRows (whole shape) 0 s (map (λ row. Ok row) rows)
  pub undo : AreRows (whole (undone_shape completed shape)) 0 undone (map (λ row. Ok row) (inverse_rows rows))
  pub old : AllByRecursion HasOldColumns rows
  pub bytes : Undoes (row_undone_by completed shape) shape s undone

-- How rows with these images are undone.
abbrev pub IsUndoing : List Typed → Option Bitmap → Option Bitmap → Undoing → Type 0
IsUndoing columns before after Exchange = completes before after ≡ false
IsUndoing columns before after (Complete images) =
    (completes before after ≡ true) × (before ≡ Some (bitmap_of images.before)) × (after ≡ Some (bitmap_of images.after)) × (columns_of images.columns ≡ columns)

-- Rows that undo others: whether they are completed, and their bytes.
pub record Undone : Type 0 where
  pub completes : Bool
  pub bytes : List ℕ

abbrev pub undone_of : UndoneRows → Undone
undone_of rows = record { completes = rows.completes; bytes = rows.bytes.items }

-- The event of a table with these columns and this primary key is undone.
pub record UndoesRows (key : List ℕ) (columns : List Typed) (event : RowsEventData) (undone : Undone) : Type 0 where
  pub count : count_error (event_in event).columns.count (length columns) ≡ None
  pub images : can_undo key (event_in event).columns.before (event_in event).columns.after ≡ true
  pub is_whole : is_partial event ≡ false
  pub completed : undone.completes ≡ completes (event_in event).columns.before (event_in event).columns.after
  pub rows : IsUndone undone.completes (event_shape columns (event_in event)) (event_in event).rows undone.bytes

-- It can be undone.
pub record CanUndoRows (key : List ℕ) (columns : List Typed) (event : RowsEventData) : Type 0 where
  pub undone : Undone
  pub undoes : UndoesRows key columns event undone

-- So it is; or the first of the refusals is the answer; or memory was refused.
abbrev pub GivesUndone : List ℕ → List Typed → RowsEventData → Result UndoneRows UndoError → Type 0
GivesUndone key columns event (Ok undone) = UndoesRows key columns event (undone_of undone)
GivesUndone key columns event (Err (errors.Event error)) = count_error (event_in event).columns.count (length columns) ≡ Some error
GivesUndone key columns event (Err errors.Image) = can_undo key (event_in event).columns.before (event_in event).columns.after ≡ false
GivesUndone key columns event (Err (errors.PartialJson row)) = (is_partial event ≡ true) × (row ≡ 0)
GivesUndone key columns event (Err (errors.Rows error)) = IsRefused (event_shape columns (event_in event)) 0 (event_in event).rows error
GivesUndone key columns event (Err errors.Memory) = Unit {0}
