-- Images that have all columns of their table.
use Rattle.std.proofs.Common.{◌≡◌, ℕ, zero, suc, ◌+◌, ◌/◌, ◌%◌, ◌<◌, Bool, true, false, List, [], ◌∷◌, length, Option, None, Some, Ok, refl, sym, ◌∙◌, ap, subst, arith}
use Rattle.std.specs.Borrow.{Bor}
use Rattle.std.specs.Prelude.{◌==◌, if◌then◌else◌, option_map, IfSome}
use Rattle.binlog_columns.specs.Layouts.{layout_of}
use Rattle.binlog_columns.specs.Metadata.{Typed}
use Rattle.binlog_rows.specs.Columns.{Bitmap, bitmap}
use Rattle.binlog_values.specs.Contents.{Content, content_in}
use Rattle.binlog_values.specs.Values.{meaning_in}
use Rattle.binlog_images.specs.Answers.{IsPassed}
use Rattle.binlog_images.specs.Bits.{Bits, is_set, set_count, first_bits, next_bits, next_place}
use Rattle.binlog_images.specs.Cells.{Cell, cell_in, cell_at}
use Rattle.binlog_images.specs.Cells as cells
use Rattle.binlog_images.specs.Images.{left, cells_in, image_at, placed, image_if_at}
use Rattle.binlog_images.specs.declared.rows_error.ImageKind.TheVariants.{Before}
use Rattle.binlog_images.proofs.Steps.{left_step, image_taken}
use Rattle.binlog_undo.specs.Coverage.{all_from, has_all}
use Rattle.binlog_undo.specs.FullImages.{image_shape}
use Rattle.binlog_undo.specs.NullWords.{HoldsNulls}
use Rattle.binlog_undo.specs.declared.full_image.FullImage.{FullImage}
use Rattle.binlog_undo.proofs.Covered.{both_true, all_by}
use Rattle.binlog_undo.proofs.NullWords.{first_null, next_nulls}

-- ---- a column that is present

pub null_passed : (column : Typed) (is_null : Bool) (s : List ℕ) → is_null ≡ true → IsPassed s ((cell_in column true is_null).reads s)
null_passed column is_null s n = record { value = cells.null; is = rw n refl }

pub value_passed : (column : Typed) (is_null : Bool) (s mid rest : List ℕ) (content : Content) → is_null ≡ false → (content_in (layout_of column)).reads s ≡ Ok (content, mid) → rest ≡ mid
    → IsPassed rest ((cell_in column true is_null).reads s)
value_passed column is_null s mid rest content n read same = record { value = cells.value (meaning_in column) content; is = rw (n, read, same) refl }

-- ---- all columns are present

one_counted : (b : Bool) (n count : ℕ) → b ≡ true → count ≡ n → (if b then 1 else 0) + count ≡ suc n
one_counted true n count is same = omega (arith, same)
one_counted false n count is same = absurd cc

all_counted : (count i : ℕ) (bits : Bitmap) → all_from count i (is_set bits) ≡ true → set_count count i bits ≡ count
all_counted zero i bits h = refl
all_counted (suc count) i bits h =
    let both = both_true (is_set bits i) (all_from count (i + 1) (is_set bits)) h in
    one_counted (is_set bits i) count (set_count count (i + 1) bits) both.0 (all_counted count (i + 1) bits both.1)

is_there : (bits : Bitmap) (k : ℕ) → has_all bits ≡ true → k < bits.0 → is_set bits k ≡ true
is_there bits k all less =
    let first : k ≡ 0 + k = omega arith in
    ap (is_set bits) first ∙ all_by bits.0 0 k (is_set bits) all less

-- The bits of the column with this index.
abbrev pub bits_at : Bitmap → Bitmap → ℕ → Bits
bits_at present nulls index = record { present = present; nulls = nulls; index = index; place = index }

next_bits_are : (present nulls : Bitmap) (index : ℕ) → is_set present index ≡ true → next_bits (bits_at present nulls index) ≡ bits_at present nulls (index + 1)
next_bits_are present nulls index is =
    ap (λ (b : Bool). let bits : Bits = record { present = present; nulls = nulls; index = index + 1; place = next_place b index } in bits) is

read_there : (column : Typed) (present nulls : Bitmap) (index : ℕ) (is_null : Bool) (s m : List ℕ) (cell : Cell) → is_set present index ≡ true → is_null ≡ is_set nulls index
    → (cell_in column true is_null).reads s ≡ Ok (cell, m) → (cell_at None column (bits_at present nulls index)).reads s ≡ Ok (cell, m)
read_there column present nulls index is_null s m cell there same read =
    subst (λ (n : Bool). (cell_in column (is_set present index) n).reads s ≡ Ok (cell, m)) same
    (subst (λ (p : Bool). (cell_in column p is_null).reads s ≡ Ok (cell, m)) (sym there) read)

-- ---- the columns of an image

-- What is left behind all columns is what is left behind the others, whose null bits the number holds.
pub record Remains (columns : List Typed) (present nulls : Bitmap) (s : List ℕ) (others : List Typed) (word : ℕ) (rest : List ℕ) : Type 0 where
  pub index : ℕ
  pub count : index + length others ≡ length columns
  pub same : left None columns (first_bits present nulls) s ≡ left None others (bits_at present nulls index) rest
  pub holds : HoldsNulls nulls index word

pub all_remain : (columns others : List Typed) (present nulls : Bitmap) (s : List ℕ) (word : ℕ) → others ≡ columns → HoldsNulls nulls 0 word → Remains columns present nulls s others word s
all_remain columns others present nulls s word same holds = record {
  index = 0;
  count = omega (arith, ap length same);
  same = ap (λ (cs : List Typed). left None cs (first_bits present nulls) s) (sym same);
  holds = holds;
}

pub others_remain : (columns others behind : List Typed) (column : Typed) (present nulls : Bitmap) (s rest next : List ℕ) (word : ℕ) → Remains columns present nulls s others word rest
    → has_all present ≡ true → present.0 ≡ length columns → nulls.0 ≡ present.0 → others ≡ column ∷ behind
    → IsPassed next ((cell_in column true (word % 2 == 1)).reads rest) → Remains columns present nulls s behind (word / 2) next
others_remain columns others behind column present nulls s rest next word h all each too split passed =
    let count : h.index + length others ≡ length columns = h.count in
    let less : h.index < present.0 = omega (arith, count, ap length split, each) in
    let within : h.index < nulls.0 = omega (arith, less, too) in
    let there : is_set present h.index ≡ true = is_there present h.index all less in
    let read = read_there column present nulls h.index (word % 2 == 1) rest next passed.value there (first_null nulls h.index word h.holds within) passed.is in
    record {
      index = h.index + 1;
      count = omega (arith, count, ap length split);
      same = h.same
          ∙ left_step None others behind column (bits_at present nulls h.index) rest next passed.value split read
          ∙ ap (λ (b : Bits). left None behind b next) (next_bits_are present nulls h.index there);
      holds = next_nulls nulls h.index word h.holds;
    }

pub none_remain : (columns others : List Typed) (present nulls : Bitmap) (s rest : List ℕ) (word : ℕ) → Remains columns present nulls s others word rest → others ≡ []
    → left None columns (first_bits present nulls) s ≡ Ok rest
none_remain columns others present nulls s rest word h none = h.same ∙ ap (λ (cs : List Typed). left None cs (bits_at present nulls h.index) rest) none

-- ---- an image

pub image_behind : (columns : List Typed) (present nulls : Bitmap) (len : ℕ) (s m n : List ℕ) (answer : Option (Bor (List ℕ))) → len ≡ present.0 → present.0 ≡ length columns
    → has_all present ≡ true → (bitmap len).reads s ≡ Ok (nulls, m) → IfSome answer (λ rest. left None columns (first_bits present nulls) n ≡ Ok rest.now) → n ≡ m
    → IfSome answer (λ rest. IsPassed rest.now (image_at (columns, present) s))
image_behind columns present nulls len s m n (Some rest) is each all read h same =
    let count : len ≡ set_count (length columns) 0 present = is ∙ sym (all_counted present.0 0 present all) ∙ ap (λ (k : ℕ). set_count k 0 present) each in
    let taken : left None columns (first_bits present nulls) m ≡ Ok rest.now = ap (λ (t : List ℕ). left None columns (first_bits present nulls) t) (sym same) ∙ h in
    record { value = cells_in None columns (first_bits present nulls) m; is = image_taken None None (columns, present) len s m rest.now nulls refl count read taken }
image_behind columns present nulls len s m n None is each all read h same = tt

pub image_there : (image : Option FullImage) (found : FullImage) (s : List ℕ) (answer : Option (Bor (List ℕ))) → image ≡ Some found
    → IfSome answer (λ rest. IsPassed rest.now (image_at (image_shape found) s)) → IfSome answer (λ rest. IsPassed rest.now (image_if_at 0 Before (option_map image_shape image) s))
image_there image found s (Some rest) is h = record {
  value = Some h.value;
  is = ap (λ (o : Option FullImage). image_if_at 0 Before (option_map image_shape o) s) is ∙ ap (placed 0 Before) h.is;
}
image_there image found s None is h = tt

pub no_image : (image : Option FullImage) (s : List ℕ) → image ≡ None → IsPassed s (image_if_at 0 Before (option_map image_shape image) s)
no_image image s is = record { value = None; is = ap (λ (o : Option FullImage). image_if_at 0 Before (option_map image_shape o) s) is }
