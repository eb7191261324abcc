-- Rows whose two images have the same columns.
use Rattle.std.proofs.Common.{◌≡◌, ℕ, ◌+◌, Bool, true, false, List, [], ◌∷◌, ◌++◌, map, reverse, Option, None, Some, refl, sym, ◌∙◌, ap, subst}
use Rattle.std.specs.List.{AllByRecursion, AllZip}
use Rattle.std.specs.Prelude.{option_map, Ok}
use Rattle.binlog_columns.specs.Metadata.{Typed}
use Rattle.binlog_rows.specs.Columns.{Bitmap}
use Rattle.binlog_images.specs.Bits.{Bits, first_bits, next_bits, is_set, is_present, is_null}
use Rattle.binlog_images.specs.Cells.{Cell, absent, null, value, diff_list, cell_in, cells, ImageShape, image, image_if, RowShape, RowCells, whole}
use Rattle.binlog_images.specs.Splits.{AreRows}
use Rattle.binlog_undo.specs.RowChanges.{TableRow, completed, inverse_row, Covers, HasOldColumns}
use Rattle.binlog_undo.specs.RowBytes.{Encodes, RowBytes, IsRowBytes, exchanged_shape, exchanged_row, exchanged_bytes, HasSameColumns, AreUndone}
use Rattle.binlog_undo.proofs.RowChanges.{changes_back}
use Rattle.binlog_undo.proofs.RowBytes.{exchanged_are_rows}

-- A column that isn't in one image isn't in the other.
absent_too : (column : Typed) (present a_null b_null : Bool) (s t r u : List ℕ) (a b : Cell) → (cell_in column present a_null).spells s a r
    → (cell_in column present b_null).spells t b u → a ≡ absent → b ≡ absent
absent_too column false a_null b_null s t r u a b p q e = q.0
absent_too column true true b_null s t r u a b p q e = let is = p.0 in absurd cc
absent_too column true false b_null s t r u a b p q e = let is = p.1 in absurd cc

-- The columns of one image are those of the other.
covers_by : (table : List Typed) (x y : Bits) (s t r u : List ℕ) (a b : TableRow) → x.index ≡ y.index → ((k : ℕ) → is_set x.present k ≡ is_set y.present k)
    → (cells table x).spells s a r → (cells table y).spells t b u → Covers a b
covers_by [] x y s t r u a b e f p q =
    subst (λ (cs : TableRow). Covers cs b) (sym p.0) (subst (λ (cs : TableRow). Covers [] cs) (sym q.0) tt)
covers_by (column ∷ table) x y s t r u a b e f p q =
    let same : is_present x ≡ is_present y = ap (λ (k : ℕ). is_set x.present k) e ∙ f y.index in
    subst (λ (cs : TableRow). Covers cs b) (sym p.1) (subst (λ (cs : TableRow). Covers (p.0.0 ∷ p.0.1) cs) (sym q.1) (
      absent_too column (is_present y) (is_null x) (is_null y) s t p.2.0 q.2.0 p.0.0 q.0.0
          (subst (λ (b : Bool). (cell_in column b (is_null x)).spells s p.0.0 p.2.0) same p.2.1) q.2.1,
      covers_by table (next_bits x) (next_bits y) p.2.0 q.2.0 r u p.0.1 q.0.1 (ap (λ (k : ℕ). k + 1) e) f p.2.2 q.2.2,
    ))

-- Then what was there before doesn't matter after the update.
completed_is_new : (old new : TableRow) → Covers new old → completed old new ≡ new
completed_is_new [] [] h = refl
completed_is_new [] (new ∷ news) h = absurd h
completed_is_new (old ∷ olds) [] h = absurd h
completed_is_new (old ∷ olds) (absent ∷ news) h = ap (λ (c : Cell). c ∷ completed olds news) (h.0 refl) ∙ ap (λ (cs : TableRow). absent ∷ cs) (completed_is_new olds news h.1)
completed_is_new (old ∷ olds) (null ∷ news) h = ap (λ (cs : TableRow). null ∷ cs) (completed_is_new olds news h.1)
completed_is_new (old ∷ olds) (value m c ∷ news) h = ap (λ (cs : TableRow). value m c ∷ cs) (completed_is_new olds news h.1)
completed_is_new (old ∷ olds) (diff_list c ∷ news) h = ap (λ (cs : TableRow). diff_list c ∷ cs) (completed_is_new olds news h.1)

-- The columns of an image.
abbrev columns_in : Option (Bitmap × List Cell) → Option TableRow
columns_in x = option_map (λ i. i.1) x

-- What holds of a row whose images have the same columns.
abbrev IsExchanged : RowCells → Type 0
IsExchanged row = HasOldColumns row × (inverse_row row ≡ exchanged_row row)

-- The columns of two images of one table, which have the same ones.
covers_image : (before after : ImageShape) → before.0 ≡ after.0 → ((index : ℕ) → is_set before.1 index ≡ is_set after.1 index)
    → (s t r u : List ℕ) (x y : Bitmap × List Cell) → (image before).spells s x r → (image after).spells t y u → Covers x.1 y.1
covers_image before after e f s t r u x y p q =
    covers_by after.0 (first_bits before.1 x.0) (first_bits after.1 y.0) p.0 q.0 r u x.1 y.1 refl f
    (subst (λ (table : List Typed). (cells table (first_bits before.1 x.0)).spells p.0 x.1 r) e p.2) q.2

images_exchanged : (before after : ImageShape) → HasSameColumns (Some before) (Some after) → (s t r u : List ℕ) (x y : Bitmap × List Cell)
    → (image before).spells s x r → (image after).spells t y u → IsExchanged (Some x.1, Some y.1)
images_exchanged before after same s t r u x y p q = (
  covers_image before after same.0 same.1 s t r u x y p q,
  ap (λ (row : TableRow). let is : RowCells = (Some row, Some x.1) in is)
      (completed_is_new x.1 y.1 (covers_image after before (sym same.0) (λ k. sym (same.1 k)) t s u r y x q p)),
)

pub row_exchanged : (before after : Option ImageShape) (bytes : RowBytes) (x y : Option (Bitmap × List Cell)) → Encodes (image_if before) bytes.before x
    → Encodes (image_if after) bytes.after y → HasSameColumns before after → IsExchanged (columns_in x, columns_in y)
row_exchanged None after bytes x y p q same = subst (λ (z : Option (Bitmap × List Cell)). IsExchanged (columns_in z, columns_in y)) (sym (p []).0) (tt, refl)
row_exchanged (Some before) None bytes None y p q same = let is = (p []).1 in absurd cc
row_exchanged (Some before) None bytes (Some x) y p q same =
    subst (λ (z : Option (Bitmap × List Cell)). IsExchanged (Some x.1, columns_in z)) (sym (q []).0) (tt, refl)
row_exchanged (Some before) (Some after) bytes x y p q same =
    let first = p [] in
    let second = q [] in
    subst (λ (z : Option (Bitmap × List Cell)). IsExchanged (columns_in z, columns_in y)) (sym first.1)
    (subst (λ (z : Option (Bitmap × List Cell)). IsExchanged (Some first.0.1, columns_in z)) (sym second.1)
    (images_exchanged before after same (bytes.before ++ []) (bytes.after ++ []) [] [] first.0 second.0 first.2 second.2))

rows_exchanged : (shape : RowShape) (bytes : List RowBytes) (rows : List RowCells) → AllZip (IsRowBytes shape) bytes rows → HasSameColumns shape.0 shape.1
    → AllByRecursion IsExchanged rows
rows_exchanged shape [] [] h same = tt
rows_exchanged shape [] (row ∷ rows) h same = absurd h
rows_exchanged shape (first ∷ bytes) [] h same = absurd h
rows_exchanged shape (first ∷ bytes) (row ∷ rows) h same =
    (subst IsExchanged h.0.are (row_exchanged shape.0 shape.1 first h.0.stored.0 h.0.stored.1 h.0.before h.0.after same), rows_exchanged shape bytes rows h.1 same)

all_have_old : (rows : List RowCells) → AllByRecursion IsExchanged rows → AllByRecursion HasOldColumns rows
all_have_old [] h = tt
all_have_old (row ∷ rows) h = (h.0.0, all_have_old rows h.1)

all_exchanged : (rows : List RowCells) → AllByRecursion IsExchanged rows → map inverse_row rows ≡ map exchanged_row rows
all_exchanged [] h = refl
all_exchanged (row ∷ rows) h = ap (λ (first : RowCells). first ∷ map inverse_row rows) h.0.1 ∙ ap (λ (others : List RowCells). exchanged_row row ∷ others) (all_exchanged rows h.1)

-- The rows with exchanged images undo the rows.
pub are_undone : {Table : Type 0} (table : Table) (shape : RowShape) (bytes : List RowBytes) (rows : List RowCells) → AllZip (IsRowBytes shape) bytes rows
    → HasSameColumns shape.0 shape.1 → AreUndone table shape rows (exchanged_bytes bytes)
are_undone table shape bytes rows h same =
    let each = rows_exchanged shape bytes rows h same in
    record {
      are = subst (λ (others : List RowCells). AreRows (whole (exchanged_shape shape)) 0 (exchanged_bytes bytes) (map (λ row. Ok row) others))
          (ap reverse (sym (all_exchanged rows each))) (exchanged_are_rows shape bytes rows h);
      changes = changes_back table rows (all_have_old rows each);
    }
