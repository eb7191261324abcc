-- Columns that are visited one after another.
use Rattle.std.proofs.Common.{◌≡◌, ℕ, ◌+◌, Bool, true, false, List, [], ◌∷◌, length, Option, None, Some, Result, Ok, Err, refl, sym, ap, subst}
use Rattle.binlog_wire.specs.declared.error.Error.{Error}
use Rattle.binlog_wire.specs.Reading.{Refusal, Read, Refuses}
use Rattle.binlog_columns.specs.Metadata.{Typed}
use Rattle.binlog_rows.specs.Columns.{Bitmap, bitmap}
use Rattle.binlog_images.specs.Answers.{Leaves, IsPassed, Passes}
use Rattle.binlog_images.specs.Bits.{Bits, first_bits, next_bits}
use Rattle.binlog_images.specs.Cells.{Cell, cell_at, ImageShape, present_count, RowsShape, RowCells}
use Rattle.binlog_images.specs.Diffs.{Diffs, first_diffs, next_diffs, json_count, diff_bits}
use Rattle.binlog_images.specs.Fronts.{front_behind_nulls, image_front, front_behind_diffs, partial_front, front_if, partial_front_if, after_front_as, after_front, front_behind_before, row_front}
use Rattle.binlog_images.specs.Images.{left, cells_in, cells_then, behind_nulls, image_with_at, behind_diffs, partial_image_at, placed, image_if_at, partial_if_at}
use Rattle.binlog_images.specs.Splits.{after_at, after_as, after_before, behind_before, row_at, first_row}
use Rattle.binlog_images.specs.Visits.{VisitRelation, VisitsColumns, VisitsImage, VisitsImages}
use Rattle.binlog_images.specs.declared.rows_error.ImageError.{ImageError}
use Rattle.binlog_images.specs.declared.rows_error.ImageKind.{ImageKind}
use Rattle.binlog_images.specs.declared.rows_error.ImageKind.TheVariants.{Before, After}
use Rattle.binlog_images.specs.declared.rows_error.RowsError.{RowsError}
use Rattle.binlog_images.proofs.Splits.{taken_ok}
use Rattle.binlog_images.proofs.Steps.{kind_is, cells_step}

-- ---- the columns of an image

-- None is read where the first is refused.
cells_refused : (diffs : Diffs) (columns others : List Typed) (column : Typed) (bits : Bits) (s : List ℕ) (d : Refusal) → columns ≡ column ∷ others
    → (cell_at diffs column bits).reads s ≡ Err d → cells_in diffs columns bits s ≡ []
cells_refused diffs columns others column bits s d split h = rw (split, h) refl

module _ {T : Type 0} (visits : VisitRelation T) (kind : ImageKind) where
  -- What is left to be visited, behind which all is visited.
  abbrev pub Remains : (start : ℕ) (all : List Cell) (first : T) (index : ℕ) (cells : List Cell) (now : T) → Type 0
  Remains start all first index cells now = (last : T) → VisitsColumns visits kind index cells now last → VisitsColumns visits kind start all first last

  -- A column was visited.
  pub visited_one : (start : ℕ) (all : List Cell) (first : T) (index : ℕ) (diffs : Diffs) (columns others : List Typed) (column : Typed) (bits : Bits) (s m : List ℕ) (cell : Cell) (now next : T)
      → Remains start all first index (cells_in diffs columns bits s) now → columns ≡ column ∷ others → (cell_at diffs column bits).reads s ≡ Ok (cell, m) → visits now kind index cell next
      → Remains start all first (index + 1) (cells_in (next_diffs column diffs) others (next_bits bits) m) next
  visited_one start all first index diffs columns others column bits s m cell now next so_far split read one = λ last then.
      so_far last (subst (λ (cells : List Cell). VisitsColumns visits kind index cells now last) (sym (cells_step diffs columns others column bits s m cell split read)) (next, one, then))

  -- No column is left.
  pub visited_all : (start : ℕ) (all : List Cell) (first : T) (index : ℕ) (diffs : Diffs) (columns : List Typed) (bits : Bits) (s : List ℕ) (now : T)
      → Remains start all first index (cells_in diffs columns bits s) now → columns ≡ [] → VisitsColumns visits kind start all first now
  visited_all start all first index diffs columns bits s now so_far none = so_far now (rw none refl)

  -- A column is refused.
  pub visited_front : (start : ℕ) (all : List Cell) (first : T) (index : ℕ) (diffs : Diffs) (columns others : List Typed) (column : Typed) (bits : Bits) (s : List ℕ) (d : Refusal) (now : T)
      → Remains start all first index (cells_in diffs columns bits s) now → columns ≡ column ∷ others → (cell_at diffs column bits).reads s ≡ Err d
      → VisitsColumns visits kind start all first now
  visited_front start all first index diffs columns others column bits s d now so_far split refused = so_far now (rw (cells_refused diffs columns others column bits s d split refused) refl)

-- ---- an image

pub nulls_passed : (diffs : Option Bitmap) (shape : ImageShape) (count : ℕ) (s m rest : List ℕ) (nulls : Bitmap) (answer : Result (Unit {0}) ImageError) → count ≡ present_count shape
    → (bitmap count).reads s ≡ Ok (nulls, m) → Leaves rest answer (left (first_diffs diffs) shape.0 (first_bits shape.1 nulls) m) → Passes rest answer (image_with_at diffs shape s)
nulls_passed diffs shape count s m rest nulls (Ok done) same read h = record { value = cells_in (first_diffs diffs) shape.0 (first_bits shape.1 nulls) m; is = rw (← same, read, h) refl }
nulls_passed diffs shape count s m rest nulls (Err e) same read h = rw (← same, read, h) refl

pub front_is : (diffs : Option Bitmap) (shape : ImageShape) (count : ℕ) (s m : List ℕ) (nulls : Bitmap) → count ≡ present_count shape → (bitmap count).reads s ≡ Ok (nulls, m)
    → image_front diffs shape s ≡ cells_in (first_diffs diffs) shape.0 (first_bits shape.1 nulls) m
front_is diffs shape count s m nulls same read = rw (← same, read) refl

pub no_front : (diffs : Option Bitmap) (shape : ImageShape) (count : ℕ) (s : List ℕ) (e : Error) → count ≡ present_count shape → Refuses ⊥ e ((bitmap count).reads s)
    → image_front diffs shape s ≡ []
no_front diffs shape count s e same h =
    let d = kind_is e ((bitmap count).reads s) h in
    rw (← same, d.1) refl

-- ---- the image after of a partial update

pub diffs_passed : (shape : ImageShape) (count : ℕ) (s m rest : List ℕ) (diffs : Option Bitmap) (answer : Result (Unit {0}) ImageError) → count ≡ json_count shape.0
    → (diff_bits count).reads s ≡ Ok (diffs, m) → Passes rest answer (image_with_at diffs shape m) → Passes rest answer (partial_image_at shape s)
diffs_passed shape count s m rest diffs answer same read h = rw (← same, read) h

pub partial_front_is : (shape : ImageShape) (count : ℕ) (s m : List ℕ) (diffs : Option Bitmap) → count ≡ json_count shape.0 → (diff_bits count).reads s ≡ Ok (diffs, m)
    → partial_front shape s ≡ image_front diffs shape m
partial_front_is shape count s m diffs same read = rw (← same, read) refl

pub no_partial_front : (shape : ImageShape) (count : ℕ) (s : List ℕ) (e : Error) → count ≡ json_count shape.0 → Refuses ⊥ e ((diff_bits count).reads s)
    → partial_front shape s ≡ []
no_partial_front shape count s e same h =
    let d = kind_is e ((diff_bits count).reads s) h in
    rw (← same, d.1) refl

-- ---- an image that a row has, or none

-- An image of a row that was passed over.
image_placed : (row : ℕ) (kind : ImageKind) (rest : List ℕ) (read : Result (List Cell × List ℕ) ImageError) → IsPassed rest read → IsPassed rest (placed row kind read)
image_placed row kind rest read h = record { value = Some h.value; is = rw h.is refl }

pub image_if_passed : (row : ℕ) (kind : ImageKind) (shape : Option ImageShape) (of : ImageShape) (s rest : List ℕ) → shape ≡ Some of → IsPassed rest (image_with_at None of s)
    → IsPassed rest (image_if_at row kind shape s)
image_if_passed row kind shape of s rest same h = rw same (image_placed row kind rest (image_with_at None of s) h)

pub partial_if_passed : (row : ℕ) (kind : ImageKind) (shape : Option ImageShape) (of : ImageShape) (s rest : List ℕ) → shape ≡ Some of → IsPassed rest (partial_image_at of s)
    → IsPassed rest (partial_if_at row kind shape s)
partial_if_passed row kind shape of s rest same h = rw same (image_placed row kind rest (partial_image_at of s) h)

-- The row hasn't the image.
pub no_image_passed : (row : ℕ) (kind : ImageKind) (shape : Option ImageShape) (s : List ℕ) → shape ≡ None → IsPassed s (image_if_at row kind shape s)
no_image_passed row kind shape s same = rw same (record { value = None; is = refl })

pub no_partial_passed : (row : ℕ) (kind : ImageKind) (shape : Option ImageShape) (s : List ℕ) → shape ≡ None → IsPassed s (partial_if_at row kind shape s)
no_partial_passed row kind shape s same = rw same (record { value = None; is = refl })

module _ {T : Type 0} (visits : VisitRelation T) where
  -- ---- a row

  -- The image before is refused.
  pub before_refused : (index : ℕ) (shape : RowsShape) (s : List ℕ) (e : RowsError) (old new : T) → image_if_at index Before shape.images.0 s ≡ Err e
      → VisitsImage visits Before (front_if shape.images.0 s) old new → VisitsImages visits (row_front index shape s) old new
  before_refused index shape s e old new read h = subst (λ (front : RowCells). VisitsImages visits front old new) (sym (ap (front_behind_before shape (front_if shape.images.0 s)) read)) (record { mid = new; before = h; after = refl })

  -- Both are visited.
  pub both_visited : (index : ℕ) (shape : RowsShape) (s m : List ℕ) (before : Option (List Cell)) (old mid new : T) → image_if_at index Before shape.images.0 s ≡ Ok (before, m)
      → VisitsImage visits Before (front_if shape.images.0 s) old mid → VisitsImage visits After (after_front shape m) mid new → VisitsImages visits (row_front index shape s) old new
  both_visited index shape s m before old mid new read first second =
      subst (λ (front : RowCells). VisitsImages visits front old new) (sym (ap (front_behind_before shape (front_if shape.images.0 s)) read)) (record { mid = mid; before = first; after = second })

-- Behind the image before.
pub row_passed : (index : ℕ) (shape : RowsShape) (s m rest : List ℕ) (before : Option (List Cell)) (answer : Result (Unit {0}) RowsError) → image_if_at index Before shape.images.0 s ≡ Ok (before, m)
    → Passes rest answer (after_at index shape m) → Passes rest answer (row_at index shape s)
row_passed index shape s m rest before (Ok done) read h = record { value = (before, h.value); is = rw (read, h.is) refl }
row_passed index shape s m rest before (Err e) read h = rw (read, h) refl

pub before_stops : (index : ℕ) (shape : RowsShape) (s : List ℕ) (e : RowsError) → image_if_at index Before shape.images.0 s ≡ Err e → row_at index shape s ≡ Err e
before_stops index shape s e read = rw read refl

-- ---- the image after

pub whole_passed : (index : ℕ) (shape : RowsShape) (s rest : List ℕ) (answer : Result (Unit {0}) RowsError) → shape.is_partial ≡ false
    → Passes rest answer (image_if_at index After shape.images.1 s) → Passes rest answer (after_at index shape s)
whole_passed index shape s rest answer same h = rw same h

pub partial_passed : (index : ℕ) (shape : RowsShape) (s rest : List ℕ) (answer : Result (Unit {0}) RowsError) → shape.is_partial ≡ true
    → Passes rest answer (partial_if_at index After shape.images.1 s) → Passes rest answer (after_at index shape s)
partial_passed index shape s rest answer same h = rw same h

pub whole_front : (shape : RowsShape) (s : List ℕ) → shape.is_partial ≡ false → after_front shape s ≡ front_if shape.images.1 s
whole_front shape s same = rw same refl

pub partial_shown : (shape : RowsShape) (s : List ℕ) → shape.is_partial ≡ true → after_front shape s ≡ partial_front_if shape.images.1 s
partial_shown shape s same = rw same refl

-- ---- the front of a row that isn't refused is the row

in_columns : (cells all : List Cell) (rest : List ℕ) (read : Result (List ℕ) ImageError) → cells_then cells read ≡ Ok (all, rest) → cells ≡ all
in_columns cells all rest (Ok r) h =
    let same : ◌≡◌ {A = List Cell × List ℕ} (cells, r) (all, rest) = cc in
    ap (λ (p : List Cell × List ℕ). p.0) same
in_columns cells all rest (Err e) h = absurd cc

front_of_nulls : (diffs : Option Bitmap) (shape : ImageShape) (read : Read Bitmap) (cells : List Cell) (rest : List ℕ) → behind_nulls diffs shape read ≡ Ok (cells, rest)
    → front_behind_nulls diffs shape read ≡ cells
front_of_nulls diffs shape (Ok x) cells rest h = in_columns (cells_in (first_diffs diffs) shape.0 (first_bits shape.1 x.0) x.1) cells rest (left (first_diffs diffs) shape.0 (first_bits shape.1 x.0) x.1) h
front_of_nulls diffs shape (Err d) cells rest h = absurd cc

front_of_image : (diffs : Option Bitmap) (shape : ImageShape) (s : List ℕ) (cells : List Cell) (rest : List ℕ) → image_with_at diffs shape s ≡ Ok (cells, rest) → image_front diffs shape s ≡ cells
front_of_image diffs shape s cells rest h = front_of_nulls diffs shape ((bitmap (present_count shape)).reads s) cells rest h

front_of_diffs : (shape : ImageShape) (read : Read (Option Bitmap)) (cells : List Cell) (rest : List ℕ) → behind_diffs shape read ≡ Ok (cells, rest) → front_behind_diffs shape read ≡ cells
front_of_diffs shape (Ok x) cells rest h = front_of_image x.0 shape x.1 cells rest h
front_of_diffs shape (Err d) cells rest h = absurd cc

in_placed : (row : ℕ) (kind : ImageKind) (front : List Cell) (read : Result (List Cell × List ℕ) ImageError) (cells : Option (List Cell)) (rest : List ℕ)
    → ((all : List Cell) (r : List ℕ) → read ≡ Ok (all, r) → front ≡ all) → placed row kind read ≡ Ok (cells, rest) → Some front ≡ cells
in_placed row kind front (Ok x) cells rest is h =
    let same : front ≡ x.0 = is x.0 x.1 refl in
    let of_row : ◌≡◌ {A = Option (List Cell) × List ℕ} (Some x.0, x.1) (cells, rest) = cc in
    rw same (ap (λ (p : Option (List Cell) × List ℕ). p.0) of_row)
in_placed row kind front (Err e) cells rest is h = absurd cc

front_of_if : (row : ℕ) (kind : ImageKind) (shape : Option ImageShape) (s : List ℕ) (cells : Option (List Cell)) (rest : List ℕ) → image_if_at row kind shape s ≡ Ok (cells, rest) → front_if shape s ≡ cells
front_of_if row kind None s cells rest h =
    let same : ◌≡◌ {A = Option (List Cell) × List ℕ} (None, s) (cells, rest) = cc in
    ap (λ (p : Option (List Cell) × List ℕ). p.0) same
front_of_if row kind (Some shape) s cells rest h = in_placed row kind (image_front None shape s) (image_with_at None shape s) cells rest (front_of_image None shape s) h

front_of_partial : (row : ℕ) (kind : ImageKind) (shape : Option ImageShape) (s : List ℕ) (cells : Option (List Cell)) (rest : List ℕ) → partial_if_at row kind shape s ≡ Ok (cells, rest) → partial_front_if shape s ≡ cells
front_of_partial row kind None s cells rest h =
    let same : ◌≡◌ {A = Option (List Cell) × List ℕ} (None, s) (cells, rest) = cc in
    ap (λ (p : Option (List Cell) × List ℕ). p.0) same
front_of_partial row kind (Some shape) s cells rest h =
    in_placed row kind (partial_front shape s) (partial_image_at shape s) cells rest (front_of_diffs shape ((diff_bits (json_count shape.0)).reads s)) h

front_of_after : (is_partial : Bool) (index : ℕ) (shape : Option ImageShape) (s : List ℕ) (cells : Option (List Cell)) (rest : List ℕ) → after_as is_partial index shape s ≡ Ok (cells, rest)
    → after_front_as is_partial shape s ≡ cells
front_of_after false index shape s cells rest h = front_of_if index After shape s cells rest h
front_of_after true index shape s cells rest h = front_of_partial index After shape s cells rest h

behind_after : (index : ℕ) (shape : RowsShape) (before : Option (List Cell)) (m rest : List ℕ) (cells : RowCells) (read : Result (Option (List Cell) × List ℕ) RowsError)
    → after_at index shape m ≡ read → after_before before read ≡ Ok (cells, rest) → (before, after_front shape m) ≡ cells
behind_after index shape before m rest cells (Ok x) is h =
    let after : after_front shape m ≡ x.0 = front_of_after shape.is_partial index shape.images.1 m x.0 x.1 is in
    let same : ◌≡◌ {A = RowCells × List ℕ} ((before, x.0), x.1) (cells, rest) = cc in
    rw after (ap (λ (p : RowCells × List ℕ). p.0) same)
behind_after index shape before m rest cells (Err e) is h = absurd cc

behind_front : (index : ℕ) (shape : RowsShape) (s rest : List ℕ) (cells : RowCells) (read : Result (Option (List Cell) × List ℕ) RowsError) → image_if_at index Before shape.images.0 s ≡ read
    → behind_before index shape read ≡ Ok (cells, rest) → front_behind_before shape (front_if shape.images.0 s) read ≡ cells
behind_front index shape s rest cells (Ok x) is h =
    let before : front_if shape.images.0 s ≡ x.0 = front_of_if index Before shape.images.0 s x.0 x.1 is in
    rw before (behind_after index shape x.0 x.1 rest cells (after_at index shape x.1) refl h)
behind_front index shape s rest cells (Err e) is h = absurd cc

-- All columns of a row that isn't refused are in front.
pub front_is_row : (index : ℕ) (shape : RowsShape) (s rest : List ℕ) (cells : RowCells) → first_row index shape s ≡ Ok (cells, rest) → row_front index shape s ≡ cells
front_is_row index shape s rest cells h =
    let taken = taken_ok index (length s) (row_at index shape s) (cells, rest) h in
    behind_front index shape s rest cells (image_if_at index Before shape.images.0 s) refl taken.0

-- A row that isn't refused was visited.
pub row_visited : {T : Type 0} (visits : VisitRelation T) (index : ℕ) (shape : RowsShape) (s rest : List ℕ) (cells : RowCells) (old new : T) → first_row index shape s ≡ Ok (cells, rest)
    → VisitsImages visits (row_front index shape s) old new → VisitsImages visits cells old new
row_visited visits index shape s rest cells old new h visited = subst (λ (row : RowCells). VisitsImages visits row old new) (front_is_row index shape s rest cells h) visited
