-- Reading with the place of the first fault is the reading of the formats.
use Rattle.std.proofs.Common.{ℕ, List, [], ◌∷◌, Option, None, Some, Result, Ok, Err, refl, ap, subst}
use Rattle.std.specs.Prelude.{option_map}
use Rattle.binlog_wire.specs.Reading.{Read, ◌>>=◌, read_as}
use Rattle.binlog_columns.specs.Metadata.{Typed}
use Rattle.binlog_rows.specs.Columns.{Bitmap, bitmap}
use Rattle.binlog_images.specs.Bits.{Bits, first_bits, next_bits}
use Rattle.binlog_images.specs.Diffs.{Diffs, first_diffs, next_diffs, json_count, diff_bits}
use Rattle.binlog_images.specs.Cells.{Cell, cell_at, cells_with, ImageShape, present_count, image_with, image, partial_image, image_if, partial_if, RowShape, row, partial_row, RowsShape, whole, partial, RowCells, cells_in_row, cells_in_partial_row}
use Rattle.binlog_images.specs.Images.{left_or, left, given_and, cells_in, cells_then, cells_with_at, behind_nulls, image_with_at, image_at, behind_diffs, partial_image_at, placed, image_if_at, partial_if_at}
use Rattle.binlog_images.specs.Splits.{after_at, after_before, behind_before, row_at}
use Rattle.binlog_images.specs.Agreement.{Agrees}
use Rattle.binlog_images.specs.declared.rows_error.ImageError.{ImageError}
use Rattle.binlog_images.specs.declared.rows_error.ImageKind.{ImageKind}
use Rattle.binlog_images.specs.declared.rows_error.ImageKind.TheVariants.{Before, After}
use Rattle.binlog_images.specs.declared.rows_error.RowsError.{RowsError}

abbrev CellsAgree : Read (List Cell) → Result (List Cell × List ℕ) ImageError → Type 0
CellsAgree = Agrees (λ (x : List Cell). x) (λ (e : ImageError). e.kind)

-- A stored image, of whatever parts, with these columns.
abbrev ImagesAgree : {A : Type 0} → (A → List Cell) → Read A → Result (List Cell × List ℕ) ImageError → Type 0
ImagesAgree view = Agrees view (λ (e : ImageError). e.kind)

abbrev ImageIfAgrees : {A : Type 0} → (A → List Cell) → Read (Option A) → Result (Option (List Cell) × List ℕ) RowsError → Type 0
ImageIfAgrees view = Agrees (option_map view) (λ (e : RowsError). e.kind)

abbrev in_image : Bitmap × List Cell → List Cell
in_image x = x.1

abbrev in_partial_image : Option Bitmap × (Bitmap × List Cell) → List Cell
in_partial_image x = x.1.1

-- ---- the columns of an image

prepend : (c : Cell) (inner : Read (List Cell)) (cs : List Cell) (rest : Result (List ℕ) ImageError) → CellsAgree inner (cells_then cs rest)
    → CellsAgree (read_as (λ (x : Cell × List Cell). x.0 ∷ x.1) (inner >>= λ b. Ok ((c, b.0), b.1))) (cells_then (c ∷ cs) rest)
prepend c (Ok b) cs (Ok r) h = ap (λ (p : List Cell × List ℕ). (c ∷ p.0, p.1)) h
prepend c (Ok b) cs (Err e) h = absurd h
prepend c (Err d) cs (Ok r) h = absurd h
prepend c (Err d) cs (Err e) h = h

after_cell : (index : ℕ) (read : Read Cell) (diffs : Diffs) (columns : List Typed) (bits : Bits)
    → ((m : List ℕ) → CellsAgree ((cells_with diffs columns bits).reads m) (cells_with_at diffs columns bits m))
    → CellsAgree (read_as (λ (x : Cell × List Cell). x.0 ∷ x.1) (read >>= λ a. (cells_with diffs columns bits).reads a.1 >>= λ b. Ok ((a.0, b.0), b.1)))
    (cells_then (given_and read (cells_in diffs columns bits)) (left_or index read (left diffs columns bits)))
after_cell index (Ok x) diffs columns bits ih = prepend x.0 ((cells_with diffs columns bits).reads x.1) (cells_in diffs columns bits x.1) (left diffs columns bits x.1) (ih x.1)
after_cell index (Err d) diffs columns bits ih = refl

pub cells_agree : (diffs : Diffs) (columns : List Typed) (bits : Bits) (s : List ℕ) → CellsAgree ((cells_with diffs columns bits).reads s) (cells_with_at diffs columns bits s)
cells_agree diffs [] bits s = refl
cells_agree diffs (column ∷ columns) bits s =
    after_cell bits.index ((cell_at diffs column bits).reads s) (next_diffs column diffs) columns (next_bits bits) (λ m. cells_agree (next_diffs column diffs) columns (next_bits bits) m)

with_nulls : (nulls : Bitmap) (inner : Read (List Cell)) (r : Result (List Cell × List ℕ) ImageError) → CellsAgree inner r
    → ImagesAgree in_image (inner >>= λ b. Ok ((nulls, b.0), b.1)) r
with_nulls nulls (Ok b) (Ok y) h = h
with_nulls nulls (Ok b) (Err e) h = absurd h
with_nulls nulls (Err d) (Ok y) h = absurd h
with_nulls nulls (Err d) (Err e) h = h

behind : (diffs : Option Bitmap) (shape : ImageShape) (read : Read Bitmap)
    → ImagesAgree in_image (read >>= λ a. (cells_with (first_diffs diffs) shape.0 (first_bits shape.1 a.0)).reads a.1 >>= λ b. Ok ((a.0, b.0), b.1)) (behind_nulls diffs shape read)
behind diffs shape (Ok x) =
    let bits = first_bits shape.1 x.0 in
    with_nulls x.0 ((cells_with (first_diffs diffs) shape.0 bits).reads x.1) (cells_with_at (first_diffs diffs) shape.0 bits x.1) (cells_agree (first_diffs diffs) shape.0 bits x.1)
behind diffs shape (Err d) = refl

image_with_agrees : (diffs : Option Bitmap) (shape : ImageShape) (s : List ℕ) → ImagesAgree in_image ((image_with diffs shape).reads s) (image_with_at diffs shape s)
image_with_agrees diffs shape s = behind diffs shape ((bitmap (present_count shape)).reads s)

-- An image.
pub image_agrees : (shape : ImageShape) (s : List ℕ) → ImagesAgree in_image ((image shape).reads s) (image_at shape s)
image_agrees = image_with_agrees None

with_diffs : (diffs : Option Bitmap) (inner : Read (Bitmap × List Cell)) (r : Result (List Cell × List ℕ) ImageError) → ImagesAgree in_image inner r
    → ImagesAgree in_partial_image (inner >>= λ b. Ok ((diffs, b.0), b.1)) r
with_diffs diffs (Ok b) (Ok y) h = h
with_diffs diffs (Ok b) (Err e) h = absurd h
with_diffs diffs (Err d) (Ok y) h = absurd h
with_diffs diffs (Err d) (Err e) h = h

behind_bits : (shape : ImageShape) (read : Read (Option Bitmap))
    → ImagesAgree in_partial_image (read >>= λ a. (image_with a.0 shape).reads a.1 >>= λ b. Ok ((a.0, b.0), b.1)) (behind_diffs shape read)
behind_bits shape (Ok x) = with_diffs x.0 ((image_with x.0 shape).reads x.1) (image_with_at x.0 shape x.1) (image_with_agrees x.0 shape x.1)
behind_bits shape (Err d) = refl

-- The image after of a partial update.
pub partial_image_agrees : (shape : ImageShape) (s : List ℕ) → ImagesAgree in_partial_image ((partial_image shape).reads s) (partial_image_at shape s)
partial_image_agrees shape s = behind_bits shape ((diff_bits (json_count shape.0)).reads s)

-- ---- the images of a row

placed_agrees : {A : Type 0} (view : A → List Cell) (index : ℕ) (kind : ImageKind) (read : Read A) (r : Result (List Cell × List ℕ) ImageError) → ImagesAgree view read r
    → ImageIfAgrees view (read_as (λ (x : A). Some x) read) (placed index kind r)
placed_agrees view index kind (Ok x) (Ok y) h = ap (λ (p : List Cell × List ℕ). (Some p.0, p.1)) h
placed_agrees view index kind (Ok x) (Err e) h = absurd h
placed_agrees view index kind (Err d) (Ok y) h = absurd h
placed_agrees view index kind (Err d) (Err e) h = h

pub image_if_agrees : (index : ℕ) (kind : ImageKind) (shape : Option ImageShape) (s : List ℕ) → ImageIfAgrees in_image ((image_if shape).reads s) (image_if_at index kind shape s)
image_if_agrees index kind None s = refl
image_if_agrees index kind (Some shape) s = placed_agrees in_image index kind ((image shape).reads s) (image_at shape s) (image_agrees shape s)

partial_if_agrees : (index : ℕ) (kind : ImageKind) (shape : Option ImageShape) (s : List ℕ) → ImageIfAgrees in_partial_image ((partial_if shape).reads s) (partial_if_at index kind shape s)
partial_if_agrees index kind None s = refl
partial_if_agrees index kind (Some shape) s = placed_agrees in_partial_image index kind ((partial_image shape).reads s) (partial_image_at shape s) (partial_image_agrees shape s)

-- ---- a row, whose image after is stored in one way or the other

abbrev Stored : Type 0 → Type 0
Stored A = Option (Bitmap × List Cell) × Option A

abbrev stored_cells : {A : Type 0} → (A → List Cell) → Stored A → RowCells
stored_cells view x = (option_map in_image x.0, option_map view x.1)

abbrev RowsAgree : {A : Type 0} → (A → List Cell) → Read (Stored A) → Result (RowCells × List ℕ) RowsError → Type 0
RowsAgree view = Agrees (stored_cells view) (λ (e : RowsError). e.kind)

second : {A : Type 0} (view : A → List Cell) (before : Option (Bitmap × List Cell)) (read : Read (Option A)) (r : Result (Option (List Cell) × List ℕ) RowsError) → ImageIfAgrees view read r
    → RowsAgree view (read >>= λ b. Ok ((before, b.0), b.1)) (after_before (option_map in_image before) r)
second view before (Ok x) (Ok y) h = ap (λ (p : Option (List Cell) × List ℕ). ((option_map in_image before, p.0), p.1)) h
second view before (Ok x) (Err e) h = absurd h
second view before (Err d) (Ok y) h = absurd h
second view before (Err d) (Err e) h = h

first : {A : Type 0} (view : A → List Cell) (reads : List ℕ → Read (Option A)) (index : ℕ) (shape : RowsShape)
    → ((m : List ℕ) → ImageIfAgrees view (reads m) (after_at index shape m))
    → (read : Read (Option (Bitmap × List Cell))) (r : Result (Option (List Cell) × List ℕ) RowsError) → ImageIfAgrees in_image read r
    → RowsAgree view (read >>= λ a. reads a.1 >>= λ b. Ok ((a.0, b.0), b.1)) (behind_before index shape r)
first view reads index shape after (Ok x) (Ok y) h =
    subst (λ (p : Option (List Cell) × List ℕ). RowsAgree view (reads x.1 >>= λ b. Ok ((x.0, b.0), b.1)) (after_before p.0 (after_at index shape p.1))) h
    (second view x.0 (reads x.1) (after_at index shape x.1) (after x.1))
first view reads index shape after (Ok x) (Err e) h = absurd h
first view reads index shape after (Err d) (Ok y) h = absurd h
first view reads index shape after (Err d) (Err e) h = h

-- A row.
pub row_agrees : (index : ℕ) (shape : RowShape) (s : List ℕ) → Agrees cells_in_row (λ (e : RowsError). e.kind) ((row shape).reads s) (row_at index (whole shape) s)
row_agrees index shape s =
    first in_image (image_if shape.1).reads index (whole shape) (λ m. image_if_agrees index After shape.1 m)
    ((image_if shape.0).reads s) (image_if_at index Before shape.0 s) (image_if_agrees index Before shape.0 s)

-- A partial update.
pub partial_row_agrees : (index : ℕ) (shape : RowShape) (s : List ℕ) → Agrees cells_in_partial_row (λ (e : RowsError). e.kind) ((partial_row shape).reads s) (row_at index (partial shape) s)
partial_row_agrees index shape s =
    first in_partial_image (partial_if shape.1).reads index (partial shape) (λ m. partial_if_agrees index After shape.1 m)
    ((image_if shape.0).reads s) (image_if_at index Before shape.0 s) (image_if_agrees index Before shape.0 s)
