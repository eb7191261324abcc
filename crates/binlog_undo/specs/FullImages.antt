-- Rows whose images have all columns of their table.
use Rattle.std.specs.Prelude.{◌≡◌, ◌<◌, ℕ, List, length, Option, option_map}
use Rattle.binlog_columns.specs.Metadata.{Typed}
use Rattle.binlog_columns.specs.TableColumns.{columns_of}
use Rattle.binlog_rows.specs.Columns.{Bitmap}
use Rattle.binlog_rows.specs.Images.{bitmap_of}
use Rattle.binlog_images.specs.Answers.{IsPassed}
use Rattle.binlog_images.specs.Cells.{ImageShape, RowShape}
use Rattle.binlog_images.specs.Images.{image_if_at}
use Rattle.binlog_images.specs.StoredColumns.{front}
use Rattle.binlog_images.specs.declared.rows_error.ImageKind.TheVariants.{Before}
use Rattle.binlog_undo.specs.RowBytes.{RowBytes}
use Rattle.binlog_undo.specs.Undoing.{Undoes, IsExchangedBy}
use Rattle.binlog_undo.specs.declared.full_image.FullImage.{FullImage}
use Rattle.binlog_undo.specs.declared.full_rows.FullRows.{FullRows}
use Rattle.binlog_undo.specs.declared.full_rows.RowSlices.{RowSlices}

-- The columns of the table, and which of them are present: all.
abbrev pub image_shape : FullImage → ImageShape
image_shape image = (columns_of image.columns, bitmap_of image.present)

-- The images that each row has.
abbrev pub rows_shape : FullRows → RowShape
rows_shape rows = (option_map image_shape rows.before, option_map image_shape rows.after)

-- The images of rows of a table with these columns, of which these are present.
abbrev pub shape_with : List Typed → Option Bitmap → Option Bitmap → RowShape
shape_with columns before after = (option_map (λ bits. (columns, bits)) before, option_map (λ bits. (columns, bits)) after)

-- The bytes begin with a row, and these are the bytes of its images and those behind it. Images are read alike in each row, before a
-- change and after it: only refusals tell them apart.
pub record IsFirstRow (shape : RowShape) (s : List ℕ) (row : RowSlices) : Type 0 where
  -- The bytes behind the image before.
  pub behind : List ℕ
  pub before : IsPassed behind (image_if_at 0 Before shape.0 s)
  pub after : IsPassed row.rest.now (image_if_at 0 Before shape.1 behind)
  pub shorter : length row.rest.now < length s
  pub before_bytes : row.before.now ≡ front s behind
  pub after_bytes : row.after.now ≡ front behind row.rest.now

-- The bytes of the row's images.
abbrev pub sliced_bytes : RowSlices → RowBytes
sliced_bytes row = record { before = row.before.now; after = row.after.now }

-- The bytes are rows that are undone by other bytes, with their images exchanged.
pub record CanExchange (shape : RowShape) (s : List ℕ) : Type 0 where
  pub undoing : List ℕ
  pub undoes : Undoes IsExchangedBy shape s undoing
