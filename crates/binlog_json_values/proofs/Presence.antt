-- A row has the images that all rows of its event have.
use Rattle.std.proofs.Common.{◌≡◌, ℕ, Bool, true, false, List, length, Option, None, Some, is_some, Result, Ok, Err, refl, sym, ap, ◌∙◌}
use Rattle.binlog_images.specs.Cells.{Cell, ImageShape, RowsShape, RowCells}
use Rattle.binlog_images.specs.Images.{image_at, partial_image_at, placed, image_if_at}
use Rattle.binlog_images.specs.Splits.{after_before, after_as, after_at, behind_before, row_at, first_row}
use Rattle.binlog_images.specs.declared.rows_error.ImageKind.{ImageKind}
use Rattle.binlog_images.specs.declared.rows_error.ImageKind.TheVariants.{Before, After}
use Rattle.binlog_images.specs.declared.rows_error.RowsError.{RowsError}
use Rattle.binlog_images.proofs.Splits.{taken_ok}

abbrev Placed : Type 0
Placed = Result (Option (List Cell) × List ℕ) RowsError

-- The image of an answer that is placed in its row.
placed_some : {E : Type 0} (place : Result (List Cell × List ℕ) E → Placed) (r : Result (List Cell × List ℕ) E) (x : Option (List Cell) × List ℕ)
    → ((y : List Cell × List ℕ) → place (Ok y) ≡ Ok (Some y.0, y.1)) → ((e : E) → ¬ (place (Err e) ≡ Ok x)) → place r ≡ Ok x → is_some x.0 ≡ true
placed_some place (Ok y) x ok err is =
    let same : ◌≡◌ {A = Option (List Cell) × List ℕ} (Some y.0, y.1) x = let here = sym (ok y) ∙ is in cc in
    ap (λ (p : Option (List Cell) × List ℕ). is_some p.0) (sym same)
placed_some place (Err e) x ok err is = absurd (err e is)

image_present : (index : ℕ) (kind : ImageKind) (shape : Option ImageShape) (s : List ℕ) (x : Option (List Cell) × List ℕ) → image_if_at index kind shape s ≡ Ok x
    → is_some x.0 ≡ is_some shape
image_present index kind None s x is = let same : ◌≡◌ {A = Option (List Cell) × List ℕ} (None, s) x = cc in ap (λ (p : Option (List Cell) × List ℕ). is_some p.0) (sym same)
image_present index kind (Some shape) s x is = placed_some (placed index kind) (image_at shape s) x (λ y. refl) (λ e h. cc) is

after_present : (is_partial : Bool) (index : ℕ) (shape : Option ImageShape) (s : List ℕ) (x : Option (List Cell) × List ℕ) → after_as is_partial index shape s ≡ Ok x
    → is_some x.0 ≡ is_some shape
after_present false index shape s x is = image_present index After shape s x is
after_present true index None s x is = let same : ◌≡◌ {A = Option (List Cell) × List ℕ} (None, s) x = cc in ap (λ (p : Option (List Cell) × List ℕ). is_some p.0) (sym same)
after_present true index (Some shape) s x is = placed_some (placed index After) (partial_image_at shape s) x (λ y. refl) (λ e h. cc) is

both_present : (before : Option (List Cell)) (r : Placed) (y : RowCells × List ℕ) → after_before before r ≡ Ok y
    → (y.0.0 ≡ before) × ((x : Option (List Cell) × List ℕ) × (r ≡ Ok x) × (x.0 ≡ y.0.1))
both_present before (Ok x) y is =
    let same : ◌≡◌ {A = RowCells × List ℕ} ((before, x.0), x.1) y = cc in
    (ap (λ (p : RowCells × List ℕ). p.0.0) (sym same), (x, refl, ap (λ (p : RowCells × List ℕ). p.0.1) same))
both_present before (Err e) y is = absurd cc

row_present : (index : ℕ) (shape : RowsShape) (r : Placed) (y : RowCells × List ℕ) → behind_before index shape r ≡ Ok y
    → (x : Option (List Cell) × List ℕ) × (r ≡ Ok x) × (x.0 ≡ y.0.0) × (is_some y.0.1 ≡ is_some shape.images.1)
row_present index shape (Ok x) y is =
    let both = both_present x.0 (after_at index shape x.1) y is in
    let after = after_present shape.is_partial index shape.images.1 x.1 both.1.0 both.1.1 in
    (x, refl, sym both.0, ap is_some (sym both.1.2) ∙ after)
row_present index shape (Err e) y is = absurd cc

-- The images that a row has.
pub images_present : (index : ℕ) (shape : RowsShape) (s r : List ℕ) (cells : RowCells) → first_row index shape s ≡ Ok (cells, r)
    → (is_some cells.0 ≡ is_some shape.images.0) × (is_some cells.1 ≡ is_some shape.images.1)
images_present index shape s r cells is =
    let taken = taken_ok index (length s) (row_at index shape s) (cells, r) is in
    let present = row_present index shape (image_if_at index Before shape.images.0 s) (cells, r) taken.0 in
    (ap is_some (sym present.2) ∙ image_present index Before shape.images.0 s present.0 present.1, present.3)

-- The images that a row has are those that the next has.
pub same_images : (index next : ℕ) (shape other : RowsShape) (s r t u : List ℕ) (a b : RowCells) → other ≡ shape → first_row index shape s ≡ Ok (a, r) → first_row next other t ≡ Ok (b, u)
    → (is_some a.0 ≡ is_some b.0) × (is_some a.1 ≡ is_some b.1)
same_images index next shape other s r t u a b same first second =
    let one = images_present index shape s r a first in
    let two = images_present next other t u b second in
    (one.0 ∙ ap (λ (p : RowsShape). is_some p.images.0) (sym same) ∙ sym two.0, one.1 ∙ ap (λ (p : RowsShape). is_some p.images.1) (sym same) ∙ sym two.1)
