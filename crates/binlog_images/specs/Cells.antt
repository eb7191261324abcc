-- Row images: for each column of the table, in order, that it is absent, that it is NULL, its value, or diffs of its
-- value. And rows: an image before the row was changed, one after, or both.
-- Source: MySQL's documentation of its source code, `mysql::binlog::event::Rows_event`.
use Rattle.std.specs.Prelude.{◌≡◌, ℕ, Bool, true, false, List, [], ◌∷◌, length, Option, None, Some, unwrap_or, option_map, refl}
use Rattle.binlog_wire.specs.Formats.{Format, anywhere, silent, then, ◌⨾◌, made}
use Rattle.binlog_columns.specs.Metadata.{Typed}
use Rattle.binlog_columns.specs.Layouts.{layout_of}
use Rattle.binlog_values.specs.Contents.{Content, nothing, content_in}
use Rattle.binlog_values.specs.Values.{Meaning, meaning_in}
use Rattle.binlog_rows.specs.Columns.{Bitmap, bitmap}
use Rattle.binlog_images.specs.Bits.{Bits, first_bits, is_present, is_null, next_bits, set_count}
use Rattle.binlog_images.specs.Diffs.{Diffs, first_diffs, is_diffs, next_diffs, json_count, diff_bits}

-- A column in an image; a value has its meaning and its content, and a list of diffs of a document its content.
pub data Cell : Type 0 where
  absent : Cell
  null : Cell
  value : Meaning → Content → Cell
  diff_list : Content → Cell

-- The content of a column that has a value.
abbrev pub content_in_cell : Cell → Content
content_in_cell absent = nothing
content_in_cell null = nothing
content_in_cell (value meaning content) = content
content_in_cell (diff_list content) = content

-- A column that is present or not, and NULL or not; only one that is present and not NULL has bytes.
abbrev pub cell_in : Typed → Bool → Bool → Format anywhere Cell
cell_in column false is_null = silent absent
cell_in column true true = silent null
cell_in column true false = made {A = Content} (λ content. value (meaning_in column) content) content_in_cell (content_in (layout_of column)) (λ s c r h. refl) (λ _. refl)

-- The same of a column that, if it has a value, is a list of diffs or not. Both are encoded as a document is: the bytes
-- after their length.
abbrev pub cell_as : Bool → Typed → Bool → Bool → Format anywhere Cell
cell_as false column is_present is_null = cell_in column is_present is_null
cell_as true column false is_null = silent absent
cell_as true column true true = silent null
cell_as true column true false = made {A = Content} (λ content. diff_list content) content_in_cell (content_in (layout_of column)) (λ s c r h. refl) (λ _. refl)

-- The next column, with these bits.
abbrev pub cell_at : Diffs → Typed → Bits → Format anywhere Cell
cell_at diffs column bits = cell_as (is_diffs column diffs) column (is_present bits) (is_null bits)

-- The first column, and the others.
abbrev pub split_cells : List Cell → Cell × List Cell
split_cells [] = (absent, [])
split_cells (first ∷ others) = (first, others)

-- These columns, one after the other, with these bits.
abbrev pub cells_with : Diffs → List Typed → Bits → Format anywhere (List Cell)
cells_with diffs [] bits = silent []
cells_with diffs (column ∷ columns) bits = made {A = Cell × List Cell} (λ x. x.0 ∷ x.1) split_cells
    (cell_at diffs column bits ⨾ cells_with (next_diffs column diffs) columns (next_bits bits)) (λ s a r h. refl) (λ _. refl)

-- The same, where no column is a list of diffs.
abbrev pub cells : List Typed → Bits → Format anywhere (List Cell)
cells = cells_with None

-- The columns of a table, and which of them are present.
abbrev pub ImageShape : Type 0
ImageShape = List Typed × Bitmap

-- How many of the columns are present.
abbrev pub present_count : ImageShape → ℕ
present_count shape = set_count (length shape.0) 0 shape.1

-- An image: a null bit for each column that is present, and then the columns.
abbrev pub image_with : Option Bitmap → ImageShape → Format anywhere (Bitmap × List Cell)
image_with diffs shape = then (bitmap (present_count shape)) (λ nulls. cells_with (first_diffs diffs) shape.0 (first_bits shape.1 nulls))

-- The same, where no column is a list of diffs.
abbrev pub image : ImageShape → Format anywhere (Bitmap × List Cell)
image = image_with None

-- The image after of a partial update: which columns are lists of diffs, and then the image.
abbrev pub partial_image : ImageShape → Format anywhere (Option Bitmap × (Bitmap × List Cell))
partial_image shape = then (diff_bits (json_count shape.0)) (λ diffs. image_with diffs shape)

-- The images of a row, each of which the row has or not.
abbrev pub RowShape : Type 0
RowShape = Option ImageShape × Option ImageShape

-- An image that a row has, or none.
abbrev pub image_if : Option ImageShape → Format anywhere (Option (Bitmap × List Cell))
image_if None = silent None
image_if (Some shape) = made {A = Bitmap × List Cell} (λ x. Some x) (λ o. unwrap_or o ((0, []), [])) (image shape) (λ s a r h. refl) (λ _. refl)

-- The images of a row, each with its null bits.
abbrev pub StoredRow : Type 0
StoredRow = Option (Bitmap × List Cell) × Option (Bitmap × List Cell)

-- A row: the image before and the image after.
abbrev pub row : RowShape → Format anywhere StoredRow
row shape = image_if shape.0 ⨾ image_if shape.1

-- The image after of a partial update, if the row has it.
abbrev pub partial_if : Option ImageShape → Format anywhere (Option (Option Bitmap × (Bitmap × List Cell)))
partial_if None = silent None
partial_if (Some shape) = made {A = Option Bitmap × (Bitmap × List Cell)} (λ x. Some x) (λ o. unwrap_or o (None, ((0, []), []))) (partial_image shape) (λ s a r h. refl) (λ _. refl)

-- The images of a partial update, each with its null bits; the image after with its diff bits, too.
abbrev pub StoredPartialRow : Type 0
StoredPartialRow = Option (Bitmap × List Cell) × Option (Option Bitmap × (Bitmap × List Cell))

-- A partial update: the image before, which is whole, and the image after.
abbrev pub partial_row : RowShape → Format anywhere StoredPartialRow
partial_row shape = image_if shape.0 ⨾ partial_if shape.1

-- The rows of an event: their images, and whether they are partial updates.
pub record RowsShape : Type 0 where
  pub images : RowShape
  pub is_partial : Bool

abbrev pub shape_as : Bool → RowShape → RowsShape
shape_as is_partial images = record { images = images; is_partial = is_partial }

-- Whole rows.
abbrev pub whole : RowShape → RowsShape
whole = shape_as false

-- Partial updates.
abbrev pub partial : RowShape → RowsShape
partial = shape_as true

-- The columns of a row's images.
abbrev pub RowCells : Type 0
RowCells = Option (List Cell) × Option (List Cell)

abbrev pub cells_in_row : StoredRow → RowCells
cells_in_row x = (option_map (λ i. i.1) x.0, option_map (λ i. i.1) x.1)

abbrev pub cells_in_partial_row : StoredPartialRow → RowCells
cells_in_partial_row x = (option_map (λ i. i.1) x.0, option_map (λ i. i.1.1) x.1)

abbrev pub IsRowAs : Bool → RowShape → List ℕ → RowCells → List ℕ → Type 0
IsRowAs false images s cells r = (x : StoredRow) × (row images).spells s x r × (cells_in_row x ≡ cells)
IsRowAs true images s cells r = (x : StoredPartialRow) × (partial_row images).spells s x r × (cells_in_partial_row x ≡ cells)

-- The bytes are an encoding of a row with these columns, followed by a rest.
abbrev pub IsRow : RowsShape → List ℕ → RowCells → List ℕ → Type 0
IsRow shape = IsRowAs shape.is_partial shape.images
