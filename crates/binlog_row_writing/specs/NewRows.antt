-- Rows: their bytes, and why their values are refused.
use Rattle.std.specs.Prelude.{ℕ, ◌==◌, ◌&&◌, ◌||◌, not, Bool, true, false, List, [], ◌++◌, Option, None, Some, option_map, if◌then◌else◌}
use Rattle.std.specs.Borrow.{Bor}
use Rattle.binlog_images.specs.Cells.{Cell, ImageShape, RowShape, RowCells, present_count}
use Rattle.binlog_images.specs.declared.rows_error.ImageKind.{ImageKind}
use Rattle.binlog_images.specs.declared.rows_error.ImageKind.TheVariants.{Before, After}
use Rattle.binlog_row_writing.specs.Walks.{first_walk}
use Rattle.binlog_row_writing.specs.NewImages.{image_refusal, image_bytes, cells_for}
use Rattle.binlog_row_writing.specs.declared.new_value.NewValue.{NewValue}
use Rattle.binlog_row_writing.specs.declared.row_write_error.ImageFault.{ImageFault}
use Rattle.binlog_row_writing.specs.declared.row_write_error.RowWriteError.{RowWriteError}
use Rattle.binlog_row_writing.specs.declared.row_write_error.RowWriteErrorKind.TheVariants.{WrongImages, NoColumns, Memory}

-- The values of an image, if they are given.
abbrev pub values_of : Option (Bor (List NewValue)) → Option (List NewValue)
values_of values = option_map (λ s. s.now) values

-- The values of the image before and of the image after.
abbrev pub NewRow : Type 0
NewRow = Option (List NewValue) × Option (List NewValue)

-- ---- refusals

abbrev pub no_memory : RowWriteError
no_memory = record { kind = Memory; image = None; column = None }

-- An image is given exactly where the rows have it.
abbrev pub is_image : Option ImageShape → Option (List NewValue) → Bool
is_image None None = true
is_image None (Some values) = false
is_image (Some shape) None = false
is_image (Some shape) (Some values) = true

abbrev pub are_images : RowShape → NewRow → Bool
are_images shape row = is_image shape.0 row.0 && is_image shape.1 row.1

-- A column is present in an image.
abbrev pub has_columns : Option ImageShape → Bool
has_columns None = false
has_columns (Some shape) = not (present_count shape == 0)

-- The fault, with its image.
abbrev pub placed : ImageKind → Option ImageFault → Option RowWriteError
placed kind None = None
placed kind (Some fault) = Some (record { kind = fault.kind; image = Some kind; column = fault.column })

-- Why the values of an image are refused, if there is one.
abbrev pub refusal_if : ImageKind → Option ImageShape → Option (List NewValue) → Option RowWriteError
refusal_if kind None values = None
refusal_if kind (Some shape) None = None
refusal_if kind (Some shape) (Some values) = placed kind (image_refusal shape values)

-- The first refusal, or else the second.
abbrev pub first_of : Option RowWriteError → Option RowWriteError → Option RowWriteError
first_of (Some error) other = Some error
first_of None other = other

-- The first refusal: the images, that there are no columns, the values before, the values after.
abbrev pub row_refusal : RowShape → NewRow → Option RowWriteError
row_refusal shape row =
    if are_images shape row
    then (if has_columns shape.0 || has_columns shape.1 then first_of (refusal_if Before shape.0 row.0) (refusal_if After shape.1 row.1)
    else Some (record { kind = NoColumns; image = None; column = None }))
    else Some (record { kind = WrongImages; image = None; column = None })

-- ---- bytes

-- An image, if there is one.
abbrev pub bytes_if_any : Option ImageShape → Option (List NewValue) → List ℕ
bytes_if_any None values = []
bytes_if_any (Some shape) None = []
bytes_if_any (Some shape) (Some values) = image_bytes shape values

-- The image before, and then the image after.
abbrev pub row_bytes : RowShape → NewRow → List ℕ
row_bytes shape row = bytes_if_any shape.0 row.0 ++ bytes_if_any shape.1 row.1

-- ---- what is read back

abbrev pub cells_if : Option ImageShape → Option (List NewValue) → Option (List Cell)
cells_if None values = None
cells_if (Some shape) None = None
cells_if (Some shape) (Some values) = Some (cells_for shape.0 (first_walk shape.1) values)

-- The columns of the row's images.
abbrev pub new_cells : RowShape → NewRow → RowCells
new_cells shape row = (cells_if shape.0 row.0, cells_if shape.1 row.1)
