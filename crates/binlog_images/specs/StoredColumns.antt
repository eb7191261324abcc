-- Columns of images as they are stored.
use Rattle.std.specs.Prelude.{◌-◌, ℕ, Bool, true, false, List, [], ◌∷◌, length, take, Ok, Err, None}
use Rattle.binlog_wire.specs.Reading.{Read}
use Rattle.binlog_columns.specs.Metadata.{Typed}
use Rattle.binlog_rows.specs.Columns.{Bitmap, bitmap}
use Rattle.binlog_images.specs.Bits.{Bits, first_bits, is_present, is_null, next_bits}
use Rattle.binlog_images.specs.Cells.{Cell, cell_at, ImageShape, present_count}
use Rattle.binlog_images.specs.declared.stored_columns.StoredColumn.{StoredColumn}
use Rattle.binlog_images.specs.declared.stored_columns.StoredColumn.TheVariants as columns

-- A column of an image: not there, NULL, or the bytes of its value.
pub data Stored : Type 0 where
  absent : Stored
  null : Stored
  value : List ℕ → Stored

abbrev pub column_of : StoredColumn → Stored
column_of columns.Absent = absent
column_of columns.Null = null
column_of (columns.Value s) = value s.now

-- The bytes in front of the last ones.
abbrev pub front : List ℕ → List ℕ → List ℕ
front s rest = take (length s - length rest) s

-- A column that is present or not, and NULL or not, between its first byte and the rest.
abbrev pub stored_as : Bool → Bool → List ℕ → List ℕ → Stored
stored_as false is_null s rest = absent
stored_as true true s rest = null
stored_as true false s rest = value (front s rest)

abbrev pub stored_with : Bits → List ℕ → List ℕ → Stored
stored_with bits s rest = stored_as (is_present bits) (is_null bits) s rest

-- This column and those after it, up to one that is refused.
abbrev pub stored_and : Bits → List ℕ → Read Cell → (List ℕ → List Stored) → List Stored
stored_and bits s (Ok x) next = stored_with bits s x.1 ∷ next x.1
stored_and bits s (Err d) next = []

-- These columns, as the bytes have them.
abbrev pub stored_in : List Typed → Bits → List ℕ → List Stored
stored_in [] bits s = []
stored_in (column ∷ columns) bits s = stored_and bits s ((cell_at None column bits).reads s) (stored_in columns (next_bits bits))

-- Those behind the null bitmap.
abbrev pub stored_behind : ImageShape → Read Bitmap → List Stored
stored_behind shape (Ok x) = stored_in shape.0 (first_bits shape.1 x.0) x.1
stored_behind shape (Err d) = []

-- Those of an image.
abbrev pub stored_image : ImageShape → List ℕ → List Stored
stored_image shape s = stored_behind shape ((bitmap (present_count shape)).reads s)
