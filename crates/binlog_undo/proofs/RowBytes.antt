-- Rows as the bytes of their images.
use Rattle.std.proofs.Common.{◌≡◌, ℕ, ◌+◌, List, [], ◌∷◌, ◌++◌, length, map, reverse, Result, Ok, refl, sym, ◌∙◌, ap, subst, append_assoc, arith}
use Rattle.std.specs.List.{AllZip, flat_map}
use Rattle.std.proofs.lemmas.List.{length-append, reverse-append}
use Rattle.binlog_images.specs.Cells.{RowShape, StoredRow, RowCells, image_if, whole}
use Rattle.binlog_images.specs.Splits.{AreRows}
use Rattle.binlog_images.specs.declared.rows_error.RowsError.{RowsError}
use Rattle.binlog_undo.specs.RowBytes.{RowBytes, row_bytes, IsRowBytes, AreRowBytes, exchanged_shape, exchanged, exchanged_row, exchanged_rows, exchanged_bytes}
use Rattle.binlog_undo.proofs.Local.{local_image_if}

-- Rows that aren't refused.
abbrev given : List RowCells → List (Result RowCells RowsError)
given rows = map (λ row. Ok row) rows

-- The bytes of rows are those of their images.
pub rows_have_bytes : (shape : RowShape) (index : ℕ) (s : List ℕ) (rows : List RowCells) → AreRows (whole shape) index s (given rows)
    → (bytes : List RowBytes) × AreRowBytes shape s bytes rows
rows_have_bytes shape index s [] h = ([], record { each = tt; all = h })
rows_have_bytes shape index s (row ∷ rows) h =
    let x : StoredRow = h.1.0 in
    let before = local_image_if shape.0 s x.0 h.1.1.0 h.1.1.1 in
    let after = local_image_if shape.1 h.1.1.0 x.1 h.0 h.1.1.2 in
    let others = rows_have_bytes shape (index + 1) h.0 rows h.3 in
    let bytes : RowBytes = record { before = before.0; after = after.0 } in
    let split : s ≡ row_bytes bytes ++ h.0 = before.1 ∙ ap (λ (t : List ℕ). before.0 ++ t) after.1 ∙ sym (append_assoc before.0 after.0 h.0) in (
      bytes ∷ others.0,
      record {
        each = (
          record {
            stored = x;
            before = before.2;
            after = after.2;
            are = h.1.2;
            some = let less = h.2 in omega (arith, ap length split, length-append (row_bytes bytes) h.0, less);
          },
          others.1.each,
        );
        all = split ∙ ap (λ (t : List ℕ). row_bytes bytes ++ t) others.1.all;
      },
    )

-- The bytes of images, one row after the other, are the bytes of the rows.
pub bytes_are_rows : (shape : RowShape) (index : ℕ) (bytes : List RowBytes) (rows : List RowCells) → AllZip (IsRowBytes shape) bytes rows
    → AreRows (whole shape) index (flat_map row_bytes bytes) (given rows)
bytes_are_rows shape index [] [] h = refl
bytes_are_rows shape index [] (row ∷ rows) h = absurd h
bytes_are_rows shape index (first ∷ bytes) [] h = absurd h
bytes_are_rows shape index (first ∷ bytes) (row ∷ rows) h =
    let rest : List ℕ = flat_map row_bytes bytes in
    let is = h.0 in (
      rest,
      (
        is.stored,
        (
          first.after ++ rest,
          subst (λ (s : List ℕ). (image_if shape.0).spells s is.stored.0 (first.after ++ rest)) (sym (append_assoc first.before first.after rest)) (is.before (first.after ++ rest)),
          is.after rest,
        ),
        is.are,
      ),
      (let some = is.some in omega (arith, length-append (row_bytes first) rest, some)),
      bytes_are_rows shape (index + 1) bytes rows h.1,
    )

-- ---- the images exchanged

pub exchange_one : (shape : RowShape) (bytes : RowBytes) (row : RowCells) → IsRowBytes shape bytes row → IsRowBytes (exchanged_shape shape) (exchanged bytes) (exchanged_row row)
exchange_one shape bytes row h = record {
  stored = (h.stored.1, h.stored.0);
  before = h.after;
  after = h.before;
  are = ap exchanged_row h.are;
  some = let some = h.some in omega (arith, length-append bytes.before bytes.after, length-append bytes.after bytes.before, some);
}

pub exchange_each : (shape : RowShape) (bytes : List RowBytes) (rows : List RowCells) → AllZip (IsRowBytes shape) bytes rows
    → AllZip (IsRowBytes (exchanged_shape shape)) (map exchanged bytes) (map exchanged_row rows)
exchange_each shape [] [] h = tt
exchange_each shape [] (row ∷ rows) h = absurd h
exchange_each shape (first ∷ bytes) [] h = absurd h
exchange_each shape (first ∷ bytes) (row ∷ rows) h = (exchange_one shape first row h.0, exchange_each shape bytes rows h.1)

module _ {A B : Type 0} (R : A → B → Type 0) where
  pub zip_one_more : (xs : List A) (ys : List B) (x : A) (y : B) → AllZip R xs ys → R x y → AllZip R (xs ++ x ∷ []) (ys ++ y ∷ [])
  zip_one_more [] [] x y h r = (r, tt)
  zip_one_more [] (b ∷ ys) x y h r = absurd h
  zip_one_more (a ∷ xs) [] x y h r = absurd h
  zip_one_more (a ∷ xs) (b ∷ ys) x y h r = (h.0, zip_one_more xs ys x y h.1 r)

  pub zip_reversed : (xs : List A) (ys : List B) → AllZip R xs ys → AllZip R (reverse xs) (reverse ys)
  zip_reversed [] [] h = tt
  zip_reversed [] (b ∷ ys) h = absurd h
  zip_reversed (a ∷ xs) [] h = absurd h
  zip_reversed (a ∷ xs) (b ∷ ys) h =
      subst (λ (zs : List A). AllZip R zs (reverse (b ∷ ys))) (sym (reverse-append (a ∷ []) xs))
      (subst (λ (zs : List B). AllZip R (reverse xs ++ a ∷ []) zs) (sym (reverse-append (b ∷ []) ys)) (zip_one_more (reverse xs) (reverse ys) a b (zip_reversed xs ys h.1) h.0))

-- The rows with their images exchanged, the last row first.
pub exchanged_are_rows : (shape : RowShape) (bytes : List RowBytes) (rows : List RowCells) → AllZip (IsRowBytes shape) bytes rows
    → AreRows (whole (exchanged_shape shape)) 0 (exchanged_bytes bytes) (given (exchanged_rows rows))
exchanged_are_rows shape bytes rows h =
    bytes_are_rows (exchanged_shape shape) 0 (reverse (map exchanged bytes)) (reverse (map exchanged_row rows))
    (zip_reversed (IsRowBytes (exchanged_shape shape)) (map exchanged bytes) (map exchanged_row rows) (exchange_each shape bytes rows h))
