-- The columns after an update, one after the other.
use Rattle.std.proofs.Common.{◌≡◌, ℕ, zero, suc, ◌+◌, ◌<◌, ◌≤◌, Bool, List, [], ◌∷◌, ◌++◌, length, map, drop, get_or, refl, sym, ◌∙◌, ap, subst, append_assoc, arith}
use Rattle.std.specs.List.{flat_map}
use Rattle.std.proofs.lemmas.List.{append-nil, drop_all}
use Rattle.binlog_images.specs.StoredColumns.{Stored, column_of}
use Rattle.binlog_images.specs.declared.stored_columns.StoredColumn.{StoredColumn}
use Rattle.binlog_images.specs.declared.stored_columns.StoredColumn.TheVariants.{Absent}
use Rattle.binlog_undo.specs.Completion.{updated_stored, completed_stored, null_flag, value_bytes}

nothing_left : (i : ℕ) → ◌≡◌ {A = List StoredColumn} (drop i []) []
nothing_left zero = refl
nothing_left (suc i) = refl

-- The columns from this index on.
abbrev from_index : ℕ → List StoredColumn → List StoredColumn → List Stored
from_index i olds news = completed_stored (map column_of (drop i olds)) (map column_of (drop i news))

first_column : (i : ℕ) (olds news : List StoredColumn) → i < length olds
    → from_index i olds news ≡ updated_stored (column_of (get_or olds i Absent)) (column_of (get_or news i Absent)) ∷ from_index (suc i) olds news
first_column i [] news less = absurd (omega arith)
first_column zero (old ∷ olds) [] less = refl
first_column zero (old ∷ olds) (new ∷ news) less = refl
first_column (suc i) (old ∷ olds) [] less =
    ap (λ (t : List StoredColumn). completed_stored (map column_of (drop i olds)) (map column_of t)) (sym (nothing_left i)) ∙ first_column i olds [] (omega arith)
first_column (suc i) (old ∷ olds) (new ∷ news) less = first_column i olds news (omega arith)

module _ {A : Type 0} (F : Stored → List A) where
  one_more_column : (i : ℕ) (olds news : List StoredColumn) (old new one : StoredColumn) (xs ys all : List A) → i < length olds → old ≡ get_or olds i Absent → new ≡ get_or news i Absent
      → column_of one ≡ updated_stored (column_of old) (column_of new) → ys ≡ xs ++ F (column_of one)
      → xs ++ flat_map F (from_index i olds news) ≡ all → ys ++ flat_map F (from_index (i + 1) olds news) ≡ all
  one_more_column i olds news old new one xs ys all less first second is added same =
      let here : Stored = updated_stored (column_of (get_or olds i Absent)) (column_of (get_or news i Absent)) in
      let rest : List A = flat_map F (from_index (suc i) olds news) in
      let one_is : column_of one ≡ here =
      is ∙ ap (λ (c : StoredColumn). updated_stored (column_of c) (column_of new)) first ∙ ap (λ (c : StoredColumn). updated_stored (column_of (get_or olds i Absent)) (column_of c)) second in
      let next : i + 1 ≡ suc i = omega arith in
      ap (λ (k : ℕ). ys ++ flat_map F (from_index k olds news)) next
      ∙ ap (λ (t : List A). t ++ rest) (added ∙ ap (λ (c : Stored). xs ++ F c) one_is)
      ∙ append_assoc xs (F here) rest
      ∙ ap (λ (cs : List Stored). xs ++ flat_map F cs) (sym (first_column i olds news less))
      ∙ same

  all_columns : (i : ℕ) (olds news : List StoredColumn) (xs all : List A) → length olds ≤ i → xs ++ flat_map F (from_index i olds news) ≡ all → xs ≡ all
  all_columns i olds news xs all most same =
      sym (append-nil xs)
      ∙ subst (λ (os : List StoredColumn). xs ++ flat_map F (completed_stored (map column_of os) (map column_of (drop i news))) ≡ all) (drop_all i olds most) same

-- ---- the null bits and the values

pub one_more_null : (i : ℕ) (olds news : List StoredColumn) (old new one : StoredColumn) (xs ys all : List Bool) → i < length olds → old ≡ get_or olds i Absent → new ≡ get_or news i Absent
    → column_of one ≡ updated_stored (column_of old) (column_of new) → ys ≡ xs ++ null_flag (column_of one)
    → xs ++ flat_map null_flag (completed_stored (map column_of (drop i olds)) (map column_of (drop i news))) ≡ all
    → ys ++ flat_map null_flag (completed_stored (map column_of (drop (i + 1) olds)) (map column_of (drop (i + 1) news))) ≡ all
one_more_null = one_more_column null_flag

pub one_more_value : (i : ℕ) (olds news : List StoredColumn) (old new one : StoredColumn) (xs ys all : List ℕ) → i < length olds → old ≡ get_or olds i Absent → new ≡ get_or news i Absent
    → column_of one ≡ updated_stored (column_of old) (column_of new) → ys ≡ xs ++ value_bytes (column_of one)
    → xs ++ flat_map value_bytes (completed_stored (map column_of (drop i olds)) (map column_of (drop i news))) ≡ all
    → ys ++ flat_map value_bytes (completed_stored (map column_of (drop (i + 1) olds)) (map column_of (drop (i + 1) news))) ≡ all
one_more_value = one_more_column value_bytes

pub all_nulls : (i : ℕ) (olds news : List StoredColumn) (xs all : List Bool) → length olds ≤ i
    → xs ++ flat_map null_flag (completed_stored (map column_of (drop i olds)) (map column_of (drop i news))) ≡ all → xs ≡ all
all_nulls = all_columns null_flag

pub all_values : (i : ℕ) (olds news : List StoredColumn) (xs all : List ℕ) → length olds ≤ i
    → xs ++ flat_map value_bytes (completed_stored (map column_of (drop i olds)) (map column_of (drop i news))) ≡ all → xs ≡ all
all_values = all_columns value_bytes
