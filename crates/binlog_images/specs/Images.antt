-- How an image is read, with the place of the first fault.
use Rattle.std.specs.Prelude.{ℕ, List, [], ◌∷◌, Option, None, Some, Result, Ok, Err}
use Rattle.binlog_wire.specs.Reading.{Read}
use Rattle.binlog_columns.specs.Metadata.{Typed}
use Rattle.binlog_rows.specs.Columns.{Bitmap, bitmap}
use Rattle.binlog_images.specs.Bits.{Bits, first_bits, next_bits}
use Rattle.binlog_images.specs.Cells.{Cell, cell_at, ImageShape, present_count}
use Rattle.binlog_images.specs.Diffs.{Diffs, first_diffs, next_diffs, json_count, diff_bits}
use Rattle.binlog_images.specs.Kinds.{kind_as}
use Rattle.binlog_images.specs.declared.rows_error.ImageKind.{ImageKind}
use Rattle.binlog_images.specs.declared.rows_error.ImageError.{ImageError}
use Rattle.binlog_images.specs.declared.rows_error.RowsError.{RowsError}

-- What is left after a column and those after it, or the index of the first that is refused, and why.
abbrev pub left_or : ℕ → Read Cell → (List ℕ → Result (List ℕ) ImageError) → Result (List ℕ) ImageError
left_or index (Ok x) next = next x.1
left_or index (Err d) next = Err (record { kind = kind_as d; column = Some index })

-- What is left after these columns, or the first refusal.
abbrev pub left : Diffs → List Typed → Bits → List ℕ → Result (List ℕ) ImageError
left diffs [] bits s = Ok s
left diffs (column ∷ columns) bits s = left_or bits.index ((cell_at diffs column bits).reads s) (left (next_diffs column diffs) columns (next_bits bits))

-- This column and those after it, up to one that is refused.
abbrev pub given_and : Read Cell → (List ℕ → List Cell) → List Cell
given_and (Ok x) next = x.0 ∷ next x.1
given_and (Err d) next = []

-- These columns, as the bytes have them.
abbrev pub cells_in : Diffs → List Typed → Bits → List ℕ → List Cell
cells_in diffs [] bits s = []
cells_in diffs (column ∷ columns) bits s = given_and ((cell_at diffs column bits).reads s) (cells_in (next_diffs column diffs) columns (next_bits bits))

-- These columns, and what is left after them.
abbrev pub cells_then : List Cell → Result (List ℕ) ImageError → Result (List Cell × List ℕ) ImageError
cells_then cells (Ok rest) = Ok (cells, rest)
cells_then cells (Err e) = Err e

abbrev pub cells_with_at : Diffs → List Typed → Bits → List ℕ → Result (List Cell × List ℕ) ImageError
cells_with_at diffs columns bits s = cells_then (cells_in diffs columns bits s) (left diffs columns bits s)

-- The columns behind the null bitmap, or its refusal.
abbrev pub behind_nulls : Option Bitmap → ImageShape → Read Bitmap → Result (List Cell × List ℕ) ImageError
behind_nulls diffs shape (Ok x) = cells_with_at (first_diffs diffs) shape.0 (first_bits shape.1 x.0) x.1
behind_nulls diffs shape (Err d) = Err (record { kind = kind_as d; column = None })

-- An image with these diff bits, and what is left after it, or the first refusal.
abbrev pub image_with_at : Option Bitmap → ImageShape → List ℕ → Result (List Cell × List ℕ) ImageError
image_with_at diffs shape s = behind_nulls diffs shape ((bitmap (present_count shape)).reads s)

-- The same, where no column is a list of diffs.
abbrev pub image_at : ImageShape → List ℕ → Result (List Cell × List ℕ) ImageError
image_at = image_with_at None

-- The image behind its diff bits, or their refusal.
abbrev pub behind_diffs : ImageShape → Read (Option Bitmap) → Result (List Cell × List ℕ) ImageError
behind_diffs shape (Ok x) = image_with_at x.0 shape x.1
behind_diffs shape (Err d) = Err (record { kind = kind_as d; column = None })

-- The image after of a partial update, and what is left after it, or the first refusal.
abbrev pub partial_image_at : ImageShape → List ℕ → Result (List Cell × List ℕ) ImageError
partial_image_at shape s = behind_diffs shape ((diff_bits (json_count shape.0)).reads s)

-- The same refusal, of an image of a row.
abbrev pub error_in : ℕ → ImageKind → ImageError → RowsError
error_in row kind e = record { kind = e.kind; row = row; image = Some kind; column = e.column }

-- The same, of an image of a row.
abbrev pub placed : ℕ → ImageKind → Result (List Cell × List ℕ) ImageError → Result (Option (List Cell) × List ℕ) RowsError
placed row kind (Ok x) = Ok (Some x.0, x.1)
placed row kind (Err e) = Err (error_in row kind e)

-- An image that a row has, or none.
abbrev pub image_if_at : ℕ → ImageKind → Option ImageShape → List ℕ → Result (Option (List Cell) × List ℕ) RowsError
image_if_at row kind None s = Ok (None, s)
image_if_at row kind (Some shape) s = placed row kind (image_at shape s)

-- The image after of a partial update, if the row has it.
abbrev pub partial_if_at : ℕ → ImageKind → Option ImageShape → List ℕ → Result (Option (List Cell) × List ℕ) RowsError
partial_if_at row kind None s = Ok (None, s)
partial_if_at row kind (Some shape) s = placed row kind (partial_image_at shape s)
