-- The bytes of a row's images, and those of the rows that undo the rows of an event.
-- Source: MySQL's documentation of its source code, `mysql::binlog::event::Rows_event`.
use Rattle.std.specs.Prelude.{◌≡◌, ◌<◌, ℕ, List, ◌++◌, length, map, reverse, Option, Some, Ok}
use Rattle.std.specs.List.{AllZip, flat_map}
use Rattle.binlog_wire.specs.Formats.{Format, anywhere}
use Rattle.binlog_images.specs.Bits.{is_set}
use Rattle.binlog_images.specs.Cells.{ImageShape, RowShape, StoredRow, RowCells, image_if, cells_in_row, whole}
use Rattle.binlog_images.specs.Splits.{AreRows}
use Rattle.table_changes.specs.Changes.{inverse}
use Rattle.binlog_undo.specs.RowChanges.{row_changes, inverse_rows}

-- The bytes are an encoding of the value, whatever bytes follow.
abbrev pub Encodes : {V : Type 0} → Format anywhere V → List ℕ → V → Type 0
Encodes f bytes v = (rest : List ℕ) → f.spells (bytes ++ rest) v rest

-- The bytes of a row's images; none of an image that the row doesn't have.
pub record RowBytes : Type 0 where
  pub before : List ℕ
  pub after : List ℕ

-- The image before comes first.
abbrev pub row_bytes : RowBytes → List ℕ
row_bytes row = row.before ++ row.after

-- They are the bytes of a row with these columns, which has a byte at least.
pub record IsRowBytes (shape : RowShape) (bytes : RowBytes) (cells : RowCells) : Type 0 where
  pub stored : StoredRow
  pub before : Encodes (image_if shape.0) bytes.before stored.0
  pub after : Encodes (image_if shape.1) bytes.after stored.1
  pub are : cells_in_row stored ≡ cells
  pub some : 0 < length (row_bytes bytes)

-- They are the bytes of these rows, one after the other.
pub record AreRowBytes (shape : RowShape) (s : List ℕ) (bytes : List RowBytes) (rows : List RowCells) : Type 0 where
  pub each : AllZip (IsRowBytes shape) bytes rows
  pub all : s ≡ flat_map row_bytes bytes

-- The images are exchanged, with their columns.
abbrev pub exchanged_shape : RowShape → RowShape
exchanged_shape shape = (shape.1, shape.0)

abbrev pub exchanged : RowBytes → RowBytes
exchanged row = record { before = row.after; after = row.before }

-- The rows with their images exchanged, the last row first.
abbrev pub exchanged_row : RowCells → RowCells
exchanged_row row = (row.1, row.0)

abbrev pub exchanged_rows : List RowCells → List RowCells
exchanged_rows rows = reverse (map exchanged_row rows)

-- Their bytes.
abbrev pub exchanged_bytes : List RowBytes → List ℕ
exchanged_bytes rows = flat_map row_bytes (reverse (map exchanged rows))

-- If there are two images, both have the same columns of the same table.
abbrev pub HasSameColumns : (before after : Option ImageShape) → Type 0
HasSameColumns (Some before) (Some after) = (before.0 ≡ after.0) × ((index : ℕ) → is_set before.1 index ≡ is_set after.1 index)
HasSameColumns before after = Unit {0}

-- The rows of an event are undone by these bytes, which are rows whose changes are the inverse of the event's.
pub record AreUndone {Table : Type 0} (table : Table) (shape : RowShape) (rows : List RowCells) (undoing : List ℕ) : Type 0 where
  pub are : AreRows (whole (exchanged_shape shape)) 0 undoing (map (λ row. Ok row) (inverse_rows rows))
  pub changes : row_changes table (inverse_rows rows) ≡ inverse (row_changes table rows)
