-- The images of rows: their bytes, and why their values are refused.
use Rattle.std.specs.Prelude.{ℕ, ◌==◌, List, [], ◌∷◌, ◌++◌, length, Option, None, Some, Ok, Err, if◌then◌else◌}
use Rattle.binlog_columns.specs.Metadata.{Typed}
use Rattle.binlog_values.specs.Values.{meaning_in}
use Rattle.binlog_images.specs.Cells.{Cell, absent, null, value, ImageShape, present_count}
use Rattle.binlog_row_writing.specs.NewContents.{Contained, content_for}
use Rattle.binlog_row_writing.specs.NewCells.{is_new_null, cell_refusal, cell_bytes}
use Rattle.binlog_row_writing.specs.Walks.{WalkView, first_walk, next_walk, value_at}
use Rattle.binlog_row_writing.specs.NullBits.{new_nulls}
use Rattle.binlog_row_writing.specs.declared.new_value.NewValue.{NewValue}
use Rattle.binlog_row_writing.specs.declared.row_write_error.ImageFault.{ImageFault}
use Rattle.binlog_row_writing.specs.declared.row_write_error.RowWriteErrorKind.{RowWriteErrorKind}
use Rattle.binlog_row_writing.specs.declared.row_write_error.RowWriteErrorKind.TheVariants.{WrongCount}

-- ---- refusals

-- The fault of a column, or else of those after it.
abbrev pub fault_or : ℕ → Option RowWriteErrorKind → Option ImageFault → Option ImageFault
fault_or index (Some kind) others = Some (record { kind = kind; column = Some index })
fault_or index None others = others

-- The first fault, from left to right.
abbrev pub columns_refusal : List Typed → WalkView → List NewValue → Option ImageFault
columns_refusal [] walk values = None
columns_refusal (column ∷ columns) walk values = fault_or walk.index (cell_refusal column (value_at walk values)) (columns_refusal columns (next_walk walk) values)

-- An image has a value for each column that is present, and each of them fits.
abbrev pub image_refusal : ImageShape → List NewValue → Option ImageFault
image_refusal shape values =
    if length values == present_count shape then columns_refusal shape.0 (first_walk shape.1) values else Some (record { kind = WrongCount; column = None })

-- ---- bytes

-- The columns, one after the other.
abbrev pub columns_bytes : List Typed → WalkView → List NewValue → List ℕ
columns_bytes [] walk values = []
columns_bytes (column ∷ columns) walk values = cell_bytes column (value_at walk values) ++ columns_bytes columns (next_walk walk) values

-- The null bitmap, and then the columns.
abbrev pub image_bytes : ImageShape → List NewValue → List ℕ
image_bytes shape values = new_nulls values ++ columns_bytes shape.0 (first_walk shape.1) values

-- ---- what is read back

-- A value with its column's meaning; NULL if there is no content, which a value that is refused has.
abbrev pub value_cell : Typed → Contained → Cell
value_cell column (Ok content) = value (meaning_in column) content
value_cell column (Err e) = null

-- The column with this value.
abbrev pub cell_for : Typed → Option NewValue → Cell
cell_for column None = absent
cell_for column (Some v) = if is_new_null v then null else value_cell column (content_for column v)

-- The columns with these values.
abbrev pub cells_for : List Typed → WalkView → List NewValue → List Cell
cells_for [] walk values = []
cells_for (column ∷ columns) walk values = cell_for column (value_at walk values) ∷ cells_for columns (next_walk walk) values
