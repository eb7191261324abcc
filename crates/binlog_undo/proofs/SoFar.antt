-- Rows that are undone one after the other.
use Rattle.std.proofs.Common.{◌≡◌, ℕ, ◌+◌, List, [], ◌∷◌, ◌++◌, length, map, reverse, Result, Ok, Err, refl, sym, ◌∙◌, ap, subst, append_assoc, arith}
use Rattle.std.specs.List.{AllZip, flat_map}
use Rattle.std.proofs.lemmas.List.{length-append, reverse-append, append-nil}
use Rattle.binlog_wire.specs.Fields.{IsBytes}
use Rattle.binlog_images.specs.Cells.{RowShape, RowCells, image_if, whole}
use Rattle.binlog_images.specs.RowCells.{row_cells}
use Rattle.binlog_images.specs.Splits.{AreRows, first_row}
use Rattle.binlog_images.specs.StoredRows.{IsStored}
use Rattle.binlog_images.specs.declared.rows_error.RowsError.{RowsError}
use Rattle.binlog_images.specs.declared.stored_row.StoredRow as declared
use Rattle.binlog_undo.specs.RowBytes.{RowBytes, row_bytes, IsRowBytes}
use Rattle.binlog_undo.specs.Undoing.{Undoes, IsRefused, stored_bytes}
use Rattle.binlog_undo.proofs.RowBytes.{zip_one_more}
use Rattle.binlog_undo.proofs.Stored.{stored_is}

-- The rows in front of the rest are undone by these bytes. The index of the next row is that of the first one and their number.
pub record SoFar (IsUndoneBy : RowBytes → RowBytes → Type 0) (shape : RowShape) (start : ℕ) (s : List ℕ) (index : ℕ) (rest undoing : List ℕ) : Type 0 where
  pub rows : List RowCells
  pub bytes : List RowBytes
  pub others : List RowBytes
  pub each_row : AllZip (IsRowBytes shape) bytes rows
  pub split : s ≡ flat_map row_bytes bytes ++ rest
  pub each : AllZip IsUndoneBy bytes others
  pub all : undoing ≡ flat_map row_bytes (reverse others)
  pub fits : IsBytes rest
  pub at : index ≡ start + length rows

flat-append : (xs ys : List RowBytes) → flat_map row_bytes (xs ++ ys) ≡ flat_map row_bytes xs ++ flat_map row_bytes ys
flat-append [] ys = refl
flat-append (x ∷ xs) ys = ap (λ (t : List ℕ). row_bytes x ++ t) (flat-append xs ys) ∙ sym (append_assoc (row_bytes x) (flat_map row_bytes xs) (flat_map row_bytes ys))

module _ (IsUndoneBy : RowBytes → RowBytes → Type 0) (shape : RowShape) where
  pub none_so_far : (start : ℕ) (s undoing : List ℕ) → IsBytes s → undoing ≡ [] → SoFar IsUndoneBy shape start s start s undoing
  none_so_far start s undoing fits none = record {
    rows = [];
    bytes = [];
    others = [];
    each_row = tt;
    split = refl;
    each = tt;
    all = none;
    fits = fits;
    at = omega arith;
  }

  pub row_so_far : (start : ℕ) (s : List ℕ) (index : ℕ) (rest next undoing undone : List ℕ) (bytes other : RowBytes) (cells : RowCells)
      → SoFar IsUndoneBy shape start s index rest undoing → IsRowBytes shape bytes cells → rest ≡ row_bytes bytes ++ next → IsBytes next → IsUndoneBy bytes other
      → undone ≡ row_bytes other ++ undoing → SoFar IsUndoneBy shape start s (index + 1) next undone
  row_so_far start s index rest next undoing undone bytes other cells h is split fits by more = record {
    rows = h.rows ++ cells ∷ [];
    bytes = h.bytes ++ bytes ∷ [];
    others = h.others ++ other ∷ [];
    each_row = zip_one_more (IsRowBytes shape) h.bytes h.rows bytes cells h.each_row is;
    split = h.split ∙ ap (λ (t : List ℕ). flat_map row_bytes h.bytes ++ t) split ∙ sym (append_assoc (flat_map row_bytes h.bytes) (row_bytes bytes) next)
        ∙ ap (λ (t : List ℕ). (flat_map row_bytes h.bytes ++ t) ++ next) (sym (append-nil (row_bytes bytes)))
        ∙ ap (λ (t : List ℕ). t ++ next) (sym (flat-append h.bytes (bytes ∷ [])));
    each = zip_one_more IsUndoneBy h.bytes h.others bytes other h.each by;
    all = more ∙ ap (λ (t : List ℕ). row_bytes other ++ t) h.all ∙ ap (flat_map row_bytes) (sym (reverse-append h.others (other ∷ [])));
    fits = fits;
    at = let e = h.at in omega (arith, e, length-append h.rows (cells ∷ []));
  }

  pub one_more_so_far : (start : ℕ) (s : List ℕ) (index : ℕ) (rest next undoing undone : List ℕ) (stored : declared.StoredRow) (other : RowBytes)
      → SoFar IsUndoneBy shape start s index rest undoing → IsStored index (whole shape) rest stored next → IsUndoneBy (stored_bytes stored) other
      → undone ≡ row_bytes other ++ undoing → SoFar IsUndoneBy shape start s (index + 1) next undone
  one_more_so_far start s index rest next undoing undone stored other h row by more =
      let is = stored_is index shape rest next stored h.fits row in
      row_so_far start s index rest next undoing undone (stored_bytes stored) other (row_cells stored.row) h is.0 is.1 is.2 by more

  pub all_so_far : (start : ℕ) (s : List ℕ) (index : ℕ) (rest undoing : List ℕ) → SoFar IsUndoneBy shape start s index rest undoing → rest ≡ []
      → Undoes IsUndoneBy shape s undoing
  all_so_far start s index rest undoing h none = record {
    rows = h.rows;
    bytes = h.bytes;
    others = h.others;
    are = record { each = h.each_row; all = h.split ∙ ap (λ (t : List ℕ). flat_map row_bytes h.bytes ++ t) none ∙ append-nil (flat_map row_bytes h.bytes) };
    each = h.each;
    all = h.all;
  }

-- Rows, and behind them what the rest is.
rows_then : (shape : RowShape) (index : ℕ) (bytes : List RowBytes) (rows : List RowCells) (rest : List ℕ) (items : List (Result RowCells RowsError)) → AllZip (IsRowBytes shape) bytes rows
    → AreRows (whole shape) (index + length rows) rest items → AreRows (whole shape) index (flat_map row_bytes bytes ++ rest) (map (λ row. Ok row) rows ++ items)
rows_then shape index [] [] rest items h then_are =
    let e : index + 0 ≡ index = omega arith in
    subst (λ (n : ℕ). AreRows (whole shape) n rest items) e then_are
rows_then shape index [] (row ∷ rows) rest items h then_are = absurd h
rows_then shape index (first ∷ bytes) [] rest items h then_are = absurd h
rows_then shape index (first ∷ bytes) (row ∷ rows) rest items h then_are =
    let more : List ℕ = flat_map row_bytes bytes ++ rest in
    let is = h.0 in
    let e : index + length (row ∷ rows) ≡ (index + 1) + length rows = omega arith in
    let split : (row_bytes first ++ flat_map row_bytes bytes) ++ rest ≡ row_bytes first ++ more = append_assoc (row_bytes first) (flat_map row_bytes bytes) rest in
    subst (λ (t : List ℕ). AreRows (whole shape) index t (Ok row ∷ (map (λ row. Ok row) rows ++ items))) (sym split) (
      more,
      (
        is.stored,
        (
          first.after ++ more,
          subst (λ (s : List ℕ). (image_if shape.0).spells s is.stored.0 (first.after ++ more)) (sym (append_assoc first.before first.after more)) (is.before (first.after ++ more)),
          is.after more,
        ),
        is.are,
      ),
      (let some = is.some in omega (arith, length-append (row_bytes first) more, some)),
      rows_then shape (index + 1) bytes rows rest items h.1 (subst (λ (n : ℕ). AreRows (whole shape) n rest items) e then_are),
    )

pub refused_so_far : (IsUndoneBy : RowBytes → RowBytes → Type 0) (shape : RowShape) (start : ℕ) (s : List ℕ) (index : ℕ) (rest undoing : List ℕ) (error : RowsError)
    → SoFar IsUndoneBy shape start s index rest undoing → ¬ (rest ≡ []) → first_row index (whole shape) rest ≡ Err error → IsRefused shape start s error
refused_so_far IsUndoneBy shape start s index rest undoing error h some is = record {
  rows = h.rows;
  are =
      let here : AreRows (whole shape) index rest (Err error ∷ []) = (some, is, refl) in
      subst (λ (t : List ℕ). AreRows (whole shape) start t (map (λ row. Ok row) h.rows ++ Err error ∷ [])) (sym h.split)
      (rows_then shape start h.bytes h.rows rest (Err error ∷ []) h.each_row (subst (λ (n : ℕ). AreRows (whole shape) n rest (Err error ∷ [])) h.at here));
}
