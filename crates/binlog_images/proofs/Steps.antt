-- Images, one column at a time.
use Rattle.std.proofs.Common.{◌≡◌, ℕ, ◌+◌, ◌<◌, ◌≤◌, true, List, ◌∷◌, length, Option, None, Some, Result, Ok, Err, refl, ap, arith}
use Rattle.std.specs.Prelude.{is_ok}
use Rattle.binlog_wire.specs.declared.error.Error.{Error}
use Rattle.binlog_wire.specs.Reading.{Refusal, Read, ends, invalid, other_type, Refuses}
use Rattle.binlog_columns.specs.Metadata.{Typed}
use Rattle.binlog_columns.specs.RefusalLaws.{error_as, same_kind}
use Rattle.binlog_rows.specs.Columns.{Bitmap, bitmap}
use Rattle.binlog_images.specs.Answers.{Takes}
use Rattle.binlog_images.specs.Bits.{Bits, first_bits, next_bits}
use Rattle.binlog_images.specs.Cells.{Cell, cell_at, ImageShape, present_count}
use Rattle.binlog_images.specs.Diffs.{Diffs, first_diffs, next_diffs, json_count, diff_bits}
use Rattle.binlog_images.specs.Kinds.{kind_as, kind_of}
use Rattle.binlog_images.specs.Images.{left, cells_in, image_with_at, partial_image_at}
use Rattle.binlog_images.specs.declared.rows_error.ImageError.{ImageError}

kind_of_error : (d : Refusal) → kind_of (error_as d) ≡ kind_as d
kind_of_error ends = refl
kind_of_error (invalid why) = refl
kind_of_error (other_type number) = refl

-- An error is of the kind of its refusal.
pub kind_is : {V : Type 0} (e : Error) (read : Read V) → Refuses ⊥ e read → (d : Refusal) × (read ≡ Err d) × (kind_of e ≡ kind_as d)
kind_is e read h = same_kind kind_of kind_as kind_of_error e read h

-- One more column is taken.
pub left_step : (diffs : Diffs) (columns others : List Typed) (column : Typed) (bits : Bits) (s m : List ℕ) (cell : Cell) → columns ≡ column ∷ others
    → (cell_at diffs column bits).reads s ≡ Ok (cell, m) → left diffs columns bits s ≡ left (next_diffs column diffs) others (next_bits bits) m
left_step diffs columns others column bits s m cell split read = rw (split, read) refl

-- A column is refused.
pub left_here : (diffs : Diffs) (columns others : List Typed) (column : Typed) (bits : Bits) (s : List ℕ) (d : Refusal) → columns ≡ column ∷ others
    → (cell_at diffs column bits).reads s ≡ Err d → left diffs columns bits s ≡ Err (record { kind = kind_as d; column = Some bits.index })
left_here diffs columns others column bits s d split h = rw (split, h) refl

-- The first column, and those after it.
pub cells_step : (diffs : Diffs) (columns others : List Typed) (column : Typed) (bits : Bits) (s m : List ℕ) (cell : Cell) → columns ≡ column ∷ others
    → (cell_at diffs column bits).reads s ≡ Ok (cell, m) → cells_in diffs columns bits s ≡ cell ∷ cells_in (next_diffs column diffs) others (next_bits bits) m
cells_step diffs columns others column bits s m cell split read = rw (split, read) refl

-- ---- a whole image

-- The columns of an image are all read.
pub whole : (diffs : Diffs) (columns : List Typed) (bits : Bits) (s rest : List ℕ) → left diffs columns bits s ≡ Ok rest → is_ok (left diffs columns bits s) ≡ true
whole diffs columns bits s rest h = rw h refl

pub whole_step : (diffs : Diffs) (columns others : List Typed) (column : Typed) (bits : Bits) (s m : List ℕ) (cell : Cell) → columns ≡ column ∷ others
    → (cell_at diffs column bits).reads s ≡ Ok (cell, m) → is_ok (left diffs columns bits s) ≡ true → is_ok (left (next_diffs column diffs) others (next_bits bits) m) ≡ true
whole_step diffs columns others column bits s m cell split read h = rw (left_step diffs columns others column bits s m cell split read) at h

pub never_refused : (diffs : Diffs) (columns others : List Typed) (column : Typed) (bits : Bits) (s : List ℕ) (d : Refusal) → columns ≡ column ∷ others
    → (cell_at diffs column bits).reads s ≡ Err d → is_ok (left diffs columns bits s) ≡ true → ⊥
never_refused diffs columns others column bits s d split refused h =
    let none = rw (left_here diffs columns others column bits s d split refused) at h in
    cc

-- There is a bit for each column that is left.
pub range_first : (columns others : List Typed) (column : Typed) (index len : ℕ) → columns ≡ column ∷ others → index + length columns ≤ len → index < len
range_first columns others column index len split h = omega (arith, ap length split)

pub range_step : (columns others : List Typed) (column : Typed) (index len : ℕ) → columns ≡ column ∷ others → index + length columns ≤ len
    → (index + 1) + length others ≤ len
range_step columns others column index len split h = omega (arith, ap length split)

-- ---- behind the null bitmap

pub nulls_refused : (diffs : Option Bitmap) (shape : ImageShape) (count : ℕ) (s : List ℕ) (e : Error) → count ≡ present_count shape → Refuses ⊥ e ((bitmap count).reads s)
    → image_with_at diffs shape s ≡ Err (record { kind = kind_of e; column = None })
nulls_refused diffs shape count s e same h =
    let d = kind_is e ((bitmap count).reads s) h in
    rw (← same, d.1, d.2) refl

pub image_taken : (diffs : Option Bitmap) (first : Diffs) (shape : ImageShape) (count : ℕ) (s m rest : List ℕ) (nulls : Bitmap) → first ≡ first_diffs diffs → count ≡ present_count shape
    → (bitmap count).reads s ≡ Ok (nulls, m) → left first shape.0 (first_bits shape.1 nulls) m ≡ Ok rest
    → image_with_at diffs shape s ≡ Ok (cells_in first shape.0 (first_bits shape.1 nulls) m, rest)
image_taken diffs first shape count s m rest nulls from same read h =
    let all = rw from at h in
    rw (← same, read, from, all) refl

pub image_refused : (diffs : Option Bitmap) (first : Diffs) (shape : ImageShape) (count : ℕ) (s m : List ℕ) (nulls : Bitmap) (e : ImageError) → first ≡ first_diffs diffs → count ≡ present_count shape
    → (bitmap count).reads s ≡ Ok (nulls, m) → left first shape.0 (first_bits shape.1 nulls) m ≡ Err e → image_with_at diffs shape s ≡ Err e
image_refused diffs first shape count s m nulls e from same read h =
    let all = rw from at h in
    rw (← same, read, all) refl

-- ---- behind the diff bits

pub diffs_refused : (shape : ImageShape) (count : ℕ) (s : List ℕ) (e : Error) → count ≡ json_count shape.0 → Refuses ⊥ e ((diff_bits count).reads s)
    → partial_image_at shape s ≡ Err (record { kind = kind_of e; column = None })
diffs_refused shape count s e same h =
    let d = kind_is e ((diff_bits count).reads s) h in
    rw (← same, d.1, d.2) refl

pub partial_read : (shape : ImageShape) (count : ℕ) (s m rest : List ℕ) (diffs : Option Bitmap) (answer : Result (List Cell) ImageError) → count ≡ json_count shape.0
    → (diff_bits count).reads s ≡ Ok (diffs, m) → Takes rest answer (image_with_at diffs shape m) → Takes rest answer (partial_image_at shape s)
partial_read shape count s m rest diffs answer same read h = rw (← same, read) h
