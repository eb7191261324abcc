-- Rows that are written read back as their values.
use Rattle.std.proofs.Common.{◌≡◌, ℕ, zero, suc, ◌+◌, ◌/◌, ◌<◌, ◌≤◌, Bool, true, false, cond, List, [], ◌∷◌, ◌++◌, length, Option, None, Some, Result, Ok, Err, refl, sym, ap, subst, ◌∙◌, arith}
use Rattle.std.specs.Prelude.{◌==◌, ◌&&◌, ◌||◌, not, option_map}
use Rattle.std.proofs.lemmas.Bool.{eqb-true, eqb-false}
use Rattle.std.proofs.lemmas.List.{length-append}
use Rattle.binlog_wire.specs.Bits.{bytes_of_bits}
use Rattle.binlog_wire.specs.Formats.{Format, anywhere}
use Rattle.binlog_columns.specs.Metadata.{Typed}
use Rattle.binlog_columns.specs.Layouts.{layout_of}
use Rattle.binlog_values.specs.Contents.{Content, content_in}
use Rattle.binlog_values.specs.ContentLaws.{own_normal}
use Rattle.binlog_values.specs.Values.{meaning_in}
use Rattle.binlog_rows.specs.Columns.{Bitmap}
use Rattle.binlog_images.specs.Bits.{Bits, is_set, set_count, next_place}
use Rattle.binlog_images.specs.Cells.{Cell, null, value, cell_in, cells, ImageShape, present_count, image, RowShape, whole, image_if, StoredRow, row, RowCells, cells_in_row}
use Rattle.binlog_images.specs.Splits.{AreRows}
use Rattle.binlog_images.specs.declared.rows_error.ImageKind.{ImageKind}
use Rattle.binlog_images.specs.declared.rows_error.ImageKind.TheVariants.{Before, After}
use Rattle.binlog_images.specs.declared.rows_error.RowsError.{RowsError}
use Rattle.binlog_row_writing.specs.NewContents.{Contained, content_for}
use Rattle.binlog_row_writing.specs.FitLaws.{content_fits}
use Rattle.binlog_row_writing.specs.NewCells.{is_new_null, refusal_in, cell_refusal, contained_bytes, cell_bytes}
use Rattle.binlog_row_writing.specs.Walks.{WalkView, first_walk, next_walk, value_of, value_at}
use Rattle.binlog_row_writing.specs.NullBits.{new_nulls}
use Rattle.binlog_row_writing.specs.NullLaws.{null_is_set, nulls_len}
use Rattle.binlog_row_writing.specs.NewImages.{fault_or, columns_refusal, columns_bytes, image_refusal, image_bytes, value_cell, cell_for, cells_for}
use Rattle.binlog_row_writing.specs.NewRows.{NewRow, is_image, are_images, has_columns, placed, refusal_if, first_of, row_refusal, bytes_if_any, row_bytes, cells_if, new_cells}
use Rattle.binlog_row_writing.specs.declared.new_value.NewValue.{NewValue}
use Rattle.binlog_row_writing.specs.declared.row_write_error.ImageFault.{ImageFault}
use Rattle.binlog_row_writing.specs.declared.row_write_error.RowWriteError.{RowWriteError}
use Rattle.binlog_row_writing.specs.declared.row_write_error.RowWriteErrorKind.{RowWriteErrorKind}
use Rattle.binlog_row_writing.specs.declared.row_write_error.RowWriteErrorKind.TheVariants.{WrongCount, WrongImages, NoColumns}

-- The value can be written, as these bytes, and is its own normal form.
pub record IsWritten {V : Type 0} (f : Format anywhere V) (v : V) (s : List ℕ) : Type 0 where
  pub fits : f.Fits v
  pub bytes : f.written v ≡ s
  pub normal : f.normal v ≡ v

-- ---- columns

content_written : (column : Typed) (v : NewValue) (r : Contained) → content_for column v ≡ r → refusal_in r ≡ None
    → IsWritten (cell_in column true false) (value_cell column r) (contained_bytes (layout_of column) r)
content_written column v (Ok c) is none =
    let fits : (content_in (layout_of column)).Fits c = content_fits column v c is in
    record { fits = fits; bytes = refl; normal = ap (λ (d : Content). value (meaning_in column) d) (own_normal (layout_of column) c fits) }
content_written column v (Err e) is none = absurd cc

value_written : (column : Typed) (v : NewValue) (t : Bool) → ◌≡◌ {A = Option RowWriteErrorKind} (cond t None (refusal_in (content_for column v))) None
    → IsWritten (cell_in column true t) (cond t null (value_cell column (content_for column v))) (cond t [] (contained_bytes (layout_of column) (content_for column v)))
value_written column v true none = record { fits = tt; bytes = refl; normal = refl }
value_written column v false none = content_written column v (content_for column v) refl none

-- The bits say which values are NULL.
abbrev SayNull : Bitmap → List NewValue → Type 0
SayNull nulls values = (k : ℕ) → k < length values → is_set nulls k ≡ is_new_null (value_of values k)

cell_written : (column : Typed) (nulls : Bitmap) (place others : ℕ) (values : List NewValue) → SayNull nulls values → (t : Bool) → place + (cond t 1 0 + others) ≤ length values
    → cell_refusal column (cond t (Some (value_of values place)) None) ≡ None
    → IsWritten (cell_in column t (is_set nulls place)) (cell_for column (cond t (Some (value_of values place)) None)) (cell_bytes column (cond t (Some (value_of values place)) None))
cell_written column nulls place others values say true room none =
    let v : NewValue = value_of values place in
    let same : is_set nulls place ≡ is_new_null v = say place (omega arith) in
    subst (λ (b : Bool). IsWritten (cell_in column true b) (cell_for column (Some v)) (cell_bytes column (Some v))) (sym same) (value_written column v (is_new_null v) none)
cell_written column nulls place others values say false room none = record { fits = tt; bytes = refl; normal = refl }

next_room : (t : Bool) (place others len : ℕ) → place + (cond t 1 0 + others) ≤ len → next_place t place + others ≤ len
next_room true place others len h = omega arith
next_room false place others len h = omega arith

both_none : (index : ℕ) (r : Option RowWriteErrorKind) (others : Option ImageFault) → fault_or index r others ≡ None → (r ≡ None) × (others ≡ None)
both_none index None others h = (refl, h)
both_none index (Some kind) others h = absurd cc

-- The bits of the column.
abbrev bits_at : Bitmap → WalkView → Bits
bits_at nulls walk = record { present = walk.present; nulls = nulls; index = walk.index; place = walk.place }

cells_written : (columns : List Typed) (walk : WalkView) (nulls : Bitmap) (values : List NewValue) → SayNull nulls values
    → walk.place + set_count (length columns) walk.index walk.present ≤ length values → columns_refusal columns walk values ≡ None
    → IsWritten (cells columns (bits_at nulls walk)) (cells_for columns walk values) (columns_bytes columns walk values)
cells_written [] walk nulls values say room none = record { fits = tt; bytes = refl; normal = refl }
cells_written (column ∷ columns) walk nulls values say room none =
    let t : Bool = is_set walk.present walk.index in
    let others : ℕ = set_count (length columns) (walk.index + 1) walk.present in
    let p = both_none walk.index (cell_refusal column (value_at walk values)) (columns_refusal columns (next_walk walk) values) none in
    let first : IsWritten (cell_in column t (is_set nulls walk.place)) (cell_for column (value_at walk values)) (cell_bytes column (value_at walk values)) =
    cell_written column nulls walk.place others values say t room p.0 in
    let rest : IsWritten (cells columns (bits_at nulls (next_walk walk))) (cells_for columns (next_walk walk) values) (columns_bytes columns (next_walk walk) values) =
    cells_written columns (next_walk walk) nulls values say (next_room t walk.place others (length values) room) p.1 in
    record {
      fits = (first.fits, rest.fits);
      bytes = ap (λ (s : List ℕ). s ++ (cells columns (bits_at nulls (next_walk walk))).written (cells_for columns (next_walk walk) values)) first.bytes
          ∙ ap (λ (s : List ℕ). cell_bytes column (value_at walk values) ++ s) rest.bytes;
      normal = ap (λ (c : Cell). c ∷ (cells columns (bits_at nulls (next_walk walk))).normal (cells_for columns (next_walk walk) values)) first.normal
          ∙ ap (λ (cs : List Cell). cell_for column (value_at walk values) ∷ cs) rest.normal;
    }

-- ---- images

-- An image as it is stored: its null bitmap, and its columns.
abbrev pub stored_image : ImageShape → List NewValue → Bitmap × List Cell
stored_image shape values = ((present_count shape, new_nulls values), cells_for shape.0 (first_walk shape.1) values)

counted_by : (len count : ℕ) (r : Option ImageFault) (t : Bool) → (len == count) ≡ t → ◌≡◌ {A = Option ImageFault} (cond t r (Some (record { kind = WrongCount; column = None }))) None → (len ≡ count) × (r ≡ None)
counted_by len count r true is h = (eqb-true len count is, h)
counted_by len count r false is h = absurd cc

-- An accepted image has a value for each column that is present, and no column is refused.
pub image_accepted : (shape : ImageShape) (values : List NewValue) → image_refusal shape values ≡ None
    → (length values ≡ present_count shape) × (columns_refusal shape.0 (first_walk shape.1) values ≡ None)
image_accepted shape values none = counted_by (length values) (present_count shape) (columns_refusal shape.0 (first_walk shape.1) values) (length values == present_count shape) refl none

image_written : (shape : ImageShape) (values : List NewValue) → image_refusal shape values ≡ None → IsWritten (image shape) (stored_image shape values) (image_bytes shape values)
image_written shape values none =
    let p = image_accepted shape values none in
    let count : ℕ = present_count shape in
    let nulls : Bitmap = (count, new_nulls values) in
    let say : SayNull nulls values = λ k less. subst (λ (n : ℕ). is_set (n, new_nulls values) k ≡ is_new_null (value_of values k)) p.0 (null_is_set values k less) in
    let size : length (new_nulls values) ≡ bytes_of_bits count = subst (λ (n : ℕ). length (new_nulls values) ≡ (n + 7) / 8) p.0 (nulls_len values) in
    let room : 0 + set_count (length shape.0) 0 shape.1 ≤ length values = omega (arith, p.0) in
    let rest = cells_written shape.0 (first_walk shape.1) nulls values say room p.1 in
    record {
      fits = (size, rest.fits);
      bytes = ap (λ (s : List ℕ). new_nulls values ++ s) rest.bytes;
      normal = ap (λ (cs : List Cell). (nulls, cs)) rest.normal;
    }

abbrev pub stored_if : Option ImageShape → Option (List NewValue) → Option (Bitmap × List Cell)
stored_if None values = None
stored_if (Some shape) None = None
stored_if (Some shape) (Some values) = Some (stored_image shape values)

fault_none : (kind : ImageKind) (r : Option ImageFault) → placed kind r ≡ None → r ≡ None
fault_none kind None h = refl
fault_none kind (Some fault) h = absurd cc

if_written : (kind : ImageKind) (shape : Option ImageShape) (values : Option (List NewValue)) → is_image shape values ≡ true → refusal_if kind shape values ≡ None
    → IsWritten (image_if shape) (stored_if shape values) (bytes_if_any shape values)
if_written kind None values given none = record { fits = tt; bytes = refl; normal = refl }
if_written kind (Some shape) None given none = absurd cc
if_written kind (Some shape) (Some values) given none =
    let w = image_written shape values (fault_none kind (image_refusal shape values) none) in
    record { fits = w.fits; bytes = w.bytes; normal = ap (λ (x : Bitmap × List Cell). Some x) w.normal }

not_zero_by : (n : ℕ) (t : Bool) → (n == 0) ≡ t → not t ≡ true → 1 ≤ n
not_zero_by n true is h = absurd cc
not_zero_by zero false is h = absurd (eqb-false 0 0 is refl)
not_zero_by (suc n) false is h = omega arith

not_zero : (n : ℕ) → not (n == 0) ≡ true → 1 ≤ n
not_zero n h = not_zero_by n (n == 0) refl h

-- An image with columns has bytes.
some_bytes : (kind : ImageKind) (shape : Option ImageShape) (values : Option (List NewValue)) → is_image shape values ≡ true → refusal_if kind shape values ≡ None
    → has_columns shape ≡ true → 1 ≤ length (bytes_if_any shape values)
some_bytes kind None values given none some = absurd cc
some_bytes kind (Some shape) None given none some = absurd cc
some_bytes kind (Some shape) (Some values) given none some =
    let p = image_accepted shape values (fault_none kind (image_refusal shape values) none) in
    let positive : 1 ≤ present_count shape = not_zero (present_count shape) some in
    omega (arith, p.0, positive, nulls_len values, length-append (new_nulls values) (columns_bytes shape.0 (first_walk shape.1) values))

-- ---- rows

-- A row as it is stored.
abbrev pub stored_row : RowShape → NewRow → StoredRow
stored_row shape new = (stored_if shape.0 new.0, stored_if shape.1 new.1)

same_cells : (shape : Option ImageShape) (values : Option (List NewValue)) → option_map (λ (i : Bitmap × List Cell). i.1) (stored_if shape values) ≡ cells_if shape values
same_cells None values = refl
same_cells (Some shape) None = refl
same_cells (Some shape) (Some values) = refl

none_of : (a b : Option RowWriteError) → first_of a b ≡ None → (a ≡ None) × (b ≡ None)
none_of None b h = (refl, h)
none_of (Some e) b h = absurd cc

both_true : (a b : Bool) → (a && b) ≡ true → (a ≡ true) × (b ≡ true)
both_true true b h = (refl, h)
both_true false b h = absurd cc

-- What an accepted row is.
record IsAccepted (shape : RowShape) (new : NewRow) : Type 0 where
  given_before : is_image shape.0 new.0 ≡ true
  given_after : is_image shape.1 new.1 ≡ true
  some : (has_columns shape.0 || has_columns shape.1) ≡ true
  none_before : refusal_if Before shape.0 new.0 ≡ None
  none_after : refusal_if After shape.1 new.1 ≡ None

accepted_by : (shape : RowShape) (new : NewRow) (t u : Bool) → are_images shape new ≡ t → (has_columns shape.0 || has_columns shape.1) ≡ u
    → ◌≡◌ {A = Option RowWriteError} (cond t (cond u (first_of (refusal_if Before shape.0 new.0) (refusal_if After shape.1 new.1)) (Some (record { kind = NoColumns; image = None; column = None })))
    (Some (record { kind = WrongImages; image = None; column = None }))) None
    → IsAccepted shape new
accepted_by shape new true true is some h =
    let p = both_true (is_image shape.0 new.0) (is_image shape.1 new.1) is in
    let q = none_of (refusal_if Before shape.0 new.0) (refusal_if After shape.1 new.1) h in
    record { given_before = p.0; given_after = p.1; some = some; none_before = q.0; none_after = q.1 }
accepted_by shape new true false is some h = absurd cc
accepted_by shape new false u is some h = absurd cc

accepted : (shape : RowShape) (new : NewRow) → row_refusal shape new ≡ None → IsAccepted shape new
accepted shape new h = accepted_by shape new (are_images shape new) (has_columns shape.0 || has_columns shape.1) refl refl h

row_written : (shape : RowShape) (new : NewRow) → IsAccepted shape new → IsWritten (row shape) (stored_row shape new) (row_bytes shape new)
row_written shape new a =
    let before = if_written Before shape.0 new.0 a.given_before a.none_before in
    let after = if_written After shape.1 new.1 a.given_after a.none_after in
    record {
      fits = (before.fits, after.fits);
      bytes = ap (λ (s : List ℕ). s ++ (image_if shape.1).written (stored_if shape.1 new.1)) before.bytes ∙ ap (λ (s : List ℕ). bytes_if_any shape.0 new.0 ++ s) after.bytes;
      normal = ap (λ (x : Option (Bitmap × List Cell)). (x, (image_if shape.1).normal (stored_if shape.1 new.1))) before.normal
          ∙ ap (λ (x : Option (Bitmap × List Cell)). (stored_if shape.0 new.0, x)) after.normal;
    }

long_by : (shape : RowShape) (new : NewRow) → IsAccepted shape new → (t : Bool) → has_columns shape.0 ≡ t → 1 ≤ length (row_bytes shape new)
long_by shape new a true is =
    let some = some_bytes Before shape.0 new.0 a.given_before a.none_before is in
    omega (arith, some, length-append (bytes_if_any shape.0 new.0) (bytes_if_any shape.1 new.1))
long_by shape new a false is =
    let other : has_columns shape.1 ≡ true = rw is at a.some in
    let some = some_bytes After shape.1 new.1 a.given_after a.none_after other in
    omega (arith, some, length-append (bytes_if_any shape.0 new.0) (bytes_if_any shape.1 new.1))

-- A row's bytes are its encoding.
row_spelled : (shape : RowShape) (new : NewRow) (r : List ℕ) → IsWritten (row shape) (stored_row shape new) (row_bytes shape new)
    → (row shape).spells (row_bytes shape new ++ r) (stored_row shape new) r
row_spelled shape new r w =
    subst (λ (s : List ℕ). (row shape).spells (s ++ r) (stored_row shape new) r) w.bytes
    (subst (λ (x : StoredRow). (row shape).spells ((row shape).written (stored_row shape new) ++ r) x r) w.normal ((row shape).writes (stored_row shape new) r w.fits tt))

-- None of the rows is refused.
abbrev pub AreAccepted : RowShape → List NewRow → Type 0
AreAccepted shape [] = Unit {0}
AreAccepted shape (new ∷ others) = (row_refusal shape new ≡ None) × AreAccepted shape others

-- The bytes of rows, one after the other.
abbrev pub rows_bytes : RowShape → List NewRow → List ℕ
rows_bytes shape [] = []
rows_bytes shape (new ∷ others) = row_bytes shape new ++ rows_bytes shape others

-- The items of an iteration over rows.
abbrev pub rows_cells : RowShape → List NewRow → List (Result RowCells RowsError)
rows_cells shape [] = []
rows_cells shape (new ∷ others) = Ok (new_cells shape new) ∷ rows_cells shape others

-- The bytes of rows split into these rows.
pub rows_back : (shape : RowShape) (rows : List NewRow) (index : ℕ) → AreAccepted shape rows → AreRows (whole shape) index (rows_bytes shape rows) (rows_cells shape rows)
rows_back shape [] index all = refl
rows_back shape (new ∷ others) index all =
    let a = accepted shape new all.0 in
    let w = row_written shape new a in
    let rest : List ℕ = rows_bytes shape others in
    let long : 1 ≤ length (row_bytes shape new) = long_by shape new a (has_columns shape.0) refl in
    let cells_are : cells_in_row (stored_row shape new) ≡ new_cells shape new =
    ap (λ (x : Option (List Cell)). (x, option_map (λ (i : Bitmap × List Cell). i.1) (stored_if shape.1 new.1))) (same_cells shape.0 new.0)
    ∙ ap (λ (x : Option (List Cell)). (cells_if shape.0 new.0, x)) (same_cells shape.1 new.1) in (
      rest,
      (stored_row shape new, row_spelled shape new rest w, cells_are),
      omega (arith, long, length-append (row_bytes shape new) rest),
      rows_back shape others (index + 1) all.1,
    )
