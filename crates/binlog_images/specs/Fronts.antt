-- The columns of a row up to the first that is refused.
use Rattle.std.specs.Prelude.{ℕ, Bool, true, false, List, [], Option, None, Some, Result, Ok, Err}
use Rattle.binlog_wire.specs.Reading.{Read}
use Rattle.binlog_rows.specs.Columns.{Bitmap, bitmap}
use Rattle.binlog_images.specs.Bits.{first_bits}
use Rattle.binlog_images.specs.Cells.{Cell, ImageShape, present_count, RowsShape, RowCells}
use Rattle.binlog_images.specs.Diffs.{first_diffs, json_count, diff_bits}
use Rattle.binlog_images.specs.Images.{cells_in, image_if_at}
use Rattle.binlog_images.specs.declared.rows_error.ImageKind.TheVariants.{Before}
use Rattle.binlog_images.specs.declared.rows_error.RowsError.{RowsError}

-- Those of an image behind its null bitmap; none if that is refused.
abbrev pub front_behind_nulls : Option Bitmap → ImageShape → Read Bitmap → List Cell
front_behind_nulls diffs shape (Ok x) = cells_in (first_diffs diffs) shape.0 (first_bits shape.1 x.0) x.1
front_behind_nulls diffs shape (Err d) = []

-- Those of an image with these diff bits.
abbrev pub image_front : Option Bitmap → ImageShape → List ℕ → List Cell
image_front diffs shape s = front_behind_nulls diffs shape ((bitmap (present_count shape)).reads s)

-- Those of an image behind its diff bits; none if these are refused.
abbrev pub front_behind_diffs : ImageShape → Read (Option Bitmap) → List Cell
front_behind_diffs shape (Ok x) = image_front x.0 shape x.1
front_behind_diffs shape (Err d) = []

-- Those of the image after of a partial update.
abbrev pub partial_front : ImageShape → List ℕ → List Cell
partial_front shape s = front_behind_diffs shape ((diff_bits (json_count shape.0)).reads s)

-- Those of an image that a row has, or none.
abbrev pub front_if : Option ImageShape → List ℕ → Option (List Cell)
front_if None s = None
front_if (Some shape) s = Some (image_front None shape s)

-- Those of the image after of a partial update, if the row has it.
abbrev pub partial_front_if : Option ImageShape → List ℕ → Option (List Cell)
partial_front_if None s = None
partial_front_if (Some shape) s = Some (partial_front shape s)

abbrev pub after_front_as : Bool → Option ImageShape → List ℕ → Option (List Cell)
after_front_as false shape s = front_if shape s
after_front_as true shape s = partial_front_if shape s

-- Those of the image after, of a whole row or of a partial update.
abbrev pub after_front : RowsShape → List ℕ → Option (List Cell)
after_front shape s = after_front_as shape.is_partial shape.images.1 s

-- Nothing of the image after is there if the image before is refused.
abbrev pub front_behind_before : RowsShape → Option (List Cell) → Result (Option (List Cell) × List ℕ) RowsError → RowCells
front_behind_before shape before (Ok x) = (before, after_front shape x.1)
front_behind_before shape before (Err e) = (before, None)

-- Those of a row with this index.
abbrev pub row_front : ℕ → RowsShape → List ℕ → RowCells
row_front index shape s = front_behind_before shape (front_if shape.images.0 s) (image_if_at index Before shape.images.0 s)
