-- The rows of an event, counted.
use Rattle.std.proofs.Common.{◌≡◌, ◌⊎◌, inl, inr, ℕ, ◌+◌, ◌-◌, ◌^◌, ◌<◌, ◌≤◌, Bool, true, false, cond, List, [], ◌∷◌, ◌++◌, length, map, Some, None, Result, Ok, Err, refl, sym, ap, subst, ◌∙◌, arith}
use Rattle.std.specs.Prelude.{count_by, is_ok, is_err, min}
use Rattle.std.specs.List.{list_any}
use Rattle.std.proofs.lemmas.List.Sums.{sum_by-cons}
use Rattle.binlog_images.specs.Cells.{RowsShape, RowCells}
use Rattle.binlog_images.specs.RowCells.{answer_row}
use Rattle.binlog_images.specs.Splits.{AreRows}
use Rattle.binlog_images.specs.declared.row.Row.{Row}
use Rattle.binlog_images.specs.declared.rows_error.RowsError.{RowsError}
use Rattle.binlog_statistics.specs.RowCounts.{HasRows}

abbrev Given : Type 0
Given = Result Row RowsError

abbrev Item : Type 0
Item = Result RowCells RowsError

any_err : (items : List Given) → list_any is_err (map answer_row items) ≡ list_any is_err items
any_err [] = refl
any_err (Ok row ∷ items) = any_err items
any_err (Err error ∷ items) = refl

all_ok : (items : List Given) → count_by is_ok (map answer_row items) ≡ count_by is_ok items
all_ok [] = refl
all_ok (Ok row ∷ items) =
    sum_by-cons (λ (x : Item). cond (is_ok x) 1 0) (answer_row (Ok row)) (map answer_row items) ∙ ap (λ (n : ℕ). 1 + n) (all_ok items)
    ∙ sym (sum_by-cons (λ (x : Given). cond (is_ok x) 1 0) (Ok row) items)
all_ok (Err error ∷ items) =
    sum_by-cons (λ (x : Item). cond (is_ok x) 1 0) (answer_row (Err error)) (map answer_row items) ∙ ap (λ (n : ℕ). 0 + n) (all_ok items)
    ∙ sym (sum_by-cons (λ (x : Given). cond (is_ok x) 1 0) (Err error) items)

-- Rows that are read, up to the end or to one that is refused.
record Parts (items : List Item) : Type 0 where
  rows : List RowCells
  are : (items ≡ map Ok rows) ⊎ ((error : RowsError) × (items ≡ map Ok rows ++ Err error ∷ []))

one_more : (cells : RowCells) (items : List Item) (parts : Parts items) → Parts (Ok cells ∷ items)
one_more cells items parts = record { rows = cells ∷ parts.rows; are = by parts.are }
  where
    by : (items ≡ map Ok parts.rows) ⊎ ((error : RowsError) × (items ≡ map Ok parts.rows ++ Err error ∷ []))
        → (Ok cells ∷ items ≡ map Ok (cells ∷ parts.rows)) ⊎ ((error : RowsError) × (Ok cells ∷ items ≡ map Ok (cells ∷ parts.rows) ++ Err error ∷ []))
    by (inl same) = inl (ap (λ (l : List Item). Ok cells ∷ l) same)
    by (inr (error, same)) = inr (error, ap (λ (l : List Item). Ok cells ∷ l) same)

parts_of : (shape : RowsShape) (index : ℕ) (s : List ℕ) (items : List Item) → AreRows shape index s items → Parts items
parts_of shape index s [] are = record { rows = []; are = inl refl }
parts_of shape index s (Ok cells ∷ items) (r, is, less, more) = one_more cells items (parts_of shape (index + 1) r items more)
parts_of shape index s (Err error ∷ items) (some, first, none) = record { rows = []; are = inr (error, ap (λ (l : List Item). Err error ∷ l) none) }

no_error : (rows : List RowCells) → list_any (is_err {T = RowCells} {E = RowsError}) (map Ok rows) ≡ false
no_error [] = refl
no_error (cells ∷ rows) = no_error rows

an_error : (rows : List RowCells) (error : RowsError) → list_any (is_err {T = RowCells} {E = RowsError}) (map Ok rows ++ Err error ∷ []) ≡ true
an_error [] error = refl
an_error (cells ∷ rows) error = an_error rows error

counts_rows : (rows : List RowCells) → count_by (is_ok {T = RowCells} {E = RowsError}) (map Ok rows) ≡ length rows
counts_rows [] = refl
counts_rows (cells ∷ rows) =
    let next : length (cells ∷ rows) ≡ 1 + length rows = omega arith in
    sum_by-cons (λ (x : Item). cond (is_ok x) 1 0) (Ok cells) (map Ok rows) ∙ ap (λ (n : ℕ). 1 + n) (counts_rows rows) ∙ sym next

no_more_rows : (shape : RowsShape) (index : ℕ) (s : List ℕ) (rows : List RowCells) → AreRows shape index s (map Ok rows) → length rows ≤ length s
no_more_rows shape index s [] are = omega arith
no_more_rows shape index s (cells ∷ rows) (r, is, less, more) =
    let rest : length rows ≤ length r = no_more_rows shape (index + 1) r rows more in
    omega arith

module _ (shape : RowsShape) (index : ℕ) (s : List ℕ) (items : List Given) (refused : Bool) (count : ℕ) (are : AreRows shape index s (map answer_row items)) (small : length s < 2 ^ 64)
    (is_refused : refused ≡ list_any is_err items) (is_count : count ≡ min (count_by is_ok items) (2 ^ 64 - 1)) (rows : List RowCells) where
  counted_parts : (map answer_row items ≡ map Ok rows) ⊎ ((error : RowsError) × (map answer_row items ≡ map Ok rows ++ Err error ∷ [])) → HasRows shape index s (cond refused None (Some count))
  counted_parts (inl same) =
      let none : refused ≡ false = is_refused ∙ sym (any_err items) ∙ ap (list_any is_err) same ∙ no_error rows in
      let split : AreRows shape index s (map Ok rows) = subst (AreRows shape index s) same are in
      let all : count_by is_ok items ≡ length rows = sym (all_ok items) ∙ ap (count_by is_ok) same ∙ counts_rows rows in
      let few : length rows ≤ length s = no_more_rows shape index s rows split in
      let exact : count ≡ length rows = omega arith in
      subst (λ (b : Bool). HasRows shape index s (cond b None (Some count))) (sym none) (rows, split, exact)
  counted_parts (inr (error, same)) =
      let some : refused ≡ true = is_refused ∙ sym (any_err items) ∙ ap (list_any is_err) same ∙ an_error rows error in
      subst (λ (b : Bool). HasRows shape index s (cond b None (Some count))) (sym some) (rows, error, subst (AreRows shape index s) same are)

-- The count of the rows that were given, unless one was refused.
pub rows_counted : (shape : RowsShape) (index : ℕ) (s : List ℕ) (items : List Given) (refused : Bool) (count : ℕ) → AreRows shape index s (map answer_row items) → length s < 2 ^ 64
    → refused ≡ list_any is_err items → count ≡ min (count_by is_ok items) (2 ^ 64 - 1) → HasRows shape index s (cond refused None (Some count))
rows_counted shape index s items refused count are small is_refused is_count =
    let parts = parts_of shape index s (map answer_row items) are in
    counted_parts shape index s items refused count are small is_refused is_count parts.rows parts.are
