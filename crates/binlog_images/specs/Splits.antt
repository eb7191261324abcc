-- How the bytes of an event split into rows.
use Rattle.std.specs.Prelude.{◌≡◌, ℕ, ◌+◌, ◌<◌, Bool, true, false, List, [], ◌∷◌, length, nat_lt, if◌then◌else◌, Option, None, Result, Ok, Err}
use Rattle.binlog_images.specs.Cells.{Cell, ImageShape, RowsShape, RowCells, IsRow}
use Rattle.binlog_images.specs.Images.{image_if_at, partial_if_at}
use Rattle.binlog_images.specs.declared.rows_error.ImageKind.TheVariants.{Before, After}
use Rattle.binlog_images.specs.declared.rows_error.RowsError.{RowsError}
use Rattle.binlog_images.specs.declared.rows_error.RowsErrorKind.TheVariants.{LeftOver}

-- The image after, behind the image before.
abbrev pub after_before : Option (List Cell) → Result (Option (List Cell) × List ℕ) RowsError → Result (RowCells × List ℕ) RowsError
after_before before (Ok x) = Ok ((before, x.0), x.1)
after_before before (Err e) = Err e

-- The image after, of a whole row or of a partial update.
abbrev pub after_as : Bool → ℕ → Option ImageShape → List ℕ → Result (Option (List Cell) × List ℕ) RowsError
after_as false index shape s = image_if_at index After shape s
after_as true index shape s = partial_if_at index After shape s

abbrev pub after_at : ℕ → RowsShape → List ℕ → Result (Option (List Cell) × List ℕ) RowsError
after_at index shape s = after_as shape.is_partial index shape.images.1 s

abbrev pub behind_before : ℕ → RowsShape → Result (Option (List Cell) × List ℕ) RowsError → Result (RowCells × List ℕ) RowsError
behind_before index shape (Ok x) = after_before x.0 (after_at index shape x.1)
behind_before index shape (Err e) = Err e

-- A row with this index, and what is left after it, or the first refusal.
abbrev pub row_at : ℕ → RowsShape → List ℕ → Result (RowCells × List ℕ) RowsError
row_at index shape s = behind_before index shape (image_if_at index Before shape.images.0 s)

-- Bytes that no row can take.
abbrev pub left_over : ℕ → RowsError
left_over index = record { kind = LeftOver; row = index; image = None; column = None }

-- A row that takes none of the bytes leaves them over.
abbrev pub if_taken : ℕ → ℕ → Result (RowCells × List ℕ) RowsError → Result (RowCells × List ℕ) RowsError
if_taken index len (Ok x) = if nat_lt (length x.1) len then Ok x else Err (left_over index)
if_taken index len (Err e) = Err e

-- The first row of bytes that aren't empty.
abbrev pub first_row : ℕ → RowsShape → List ℕ → Result (RowCells × List ℕ) RowsError
first_row index shape s = if_taken index (length s) (row_at index shape s)

-- These are the rows of the bytes, from this index on: encodings of rows, one after the other, up to the last byte, or
-- up to a row that is refused.
abbrev pub AreRows : RowsShape → ℕ → List ℕ → List (Result RowCells RowsError) → Type 0
AreRows shape index s [] = s ≡ []
AreRows shape index s (Ok cells ∷ items) = (r : List ℕ) × IsRow shape s cells r × (length r < length s) × AreRows shape (index + 1) r items
AreRows shape index s (Err e ∷ items) = (¬ (s ≡ [])) × (first_row index shape s ≡ Err e) × (items ≡ [])
