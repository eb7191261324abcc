-- What calls that take columns as they are stored answer.
use Rattle.std.specs.Prelude.{◌≡◌, ℕ, List, map, Option, None, Some, Result, Ok, Err}
use Rattle.std.specs.Global.{Vec}
use Rattle.binlog_wire.specs.Reading.{Read}
use Rattle.binlog_columns.specs.Metadata.{Typed}
use Rattle.binlog_images.specs.Bits.{Bits}
use Rattle.binlog_images.specs.Cells.{Cell, ImageShape}
use Rattle.binlog_images.specs.Images.{left, image_at}
use Rattle.binlog_images.specs.StoredColumns.{Stored, column_of, stored_with, stored_in, stored_image}
use Rattle.binlog_images.specs.declared.rows_error.ImageError.{ImageError}
use Rattle.binlog_images.specs.declared.stored_columns.StoredColumn.{StoredColumn}

-- A column was read, and is stored so.
pub record IsTaken (bits : Bits) (s : List ℕ) (read : Read Cell) (stored : Stored) (rest : List ℕ) : Type 0 where
  pub cell : Cell
  pub is : read ≡ Ok (cell, rest)
  pub kept : stored ≡ stored_with bits s rest

-- The first fault.
pub record IsFault {V : Type 0} (answer : Result V ImageError) : Type 0 where
  pub error : ImageError
  pub is : answer ≡ Err error

-- The columns are stored so; or one of them is refused.
abbrev pub GivesColumns : List Typed → Bits → List ℕ → Option (Vec StoredColumn) → Type 0
GivesColumns columns bits s (Some stored) = map column_of stored.items ≡ stored_in columns bits s
GivesColumns columns bits s None = IsFault (left None columns bits s)

-- The columns of the image are stored so; or the image is refused.
abbrev pub GivesImage : ImageShape → List ℕ → Option (Vec StoredColumn) → Type 0
GivesImage shape s (Some stored) = map column_of stored.items ≡ stored_image shape s
GivesImage shape s None = IsFault (image_at shape s)
