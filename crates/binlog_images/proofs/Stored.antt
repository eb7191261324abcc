-- The first row of bytes, with the bytes of its images.
use Rattle.std.proofs.Common.{◌≡◌, ℕ, ◌≤◌, List, [], ◌∷◌, ◌++◌, length, map, Option, None, Some, Result, Ok, Err, refl, sym, ◌∙◌, ap, subst, append_assoc}
use Rattle.std.proofs.lemmas.List.{append-nil, map-append}
use Rattle.binlog_wire.specs.Reading.{Refusal}
use Rattle.binlog_columns.specs.Metadata.{Typed}
use Rattle.binlog_images.specs.Bits.{Bits, next_bits}
use Rattle.binlog_images.specs.Cells.{Cell, cell_at, RowsShape}
use Rattle.binlog_images.specs.Kinds.{kind_as}
use Rattle.binlog_images.specs.Images.{left, image_if_at}
use Rattle.binlog_images.specs.Splits.{after_at, first_row, left_over}
use Rattle.binlog_images.specs.Stored.{IsTaken, IsFault}
use Rattle.binlog_images.specs.StoredColumns.{Stored, column_of, stored_in}
use Rattle.binlog_images.specs.declared.rows_error.ImageError.{ImageError}
use Rattle.binlog_images.specs.declared.rows_error.ImageKind.TheVariants.{Before}
use Rattle.binlog_images.specs.declared.rows_error.RowsError.{RowsError}
use Rattle.binlog_images.specs.declared.stored_columns.StoredColumn.{StoredColumn}
use Rattle.binlog_images.proofs.Steps.{left_here}
use Rattle.binlog_images.proofs.Taking.{row_left_over, row_refused}

pub stored_left_over : (index : ℕ) (shape : RowsShape) (s behind rest : List ℕ) (before after : Option (List Cell)) → image_if_at index Before shape.images.0 s ≡ Ok (before, behind)
    → after_at index shape behind ≡ Ok (after, rest) → length s ≤ length rest → first_row index shape s ≡ Err (left_over index)
stored_left_over index shape s behind rest before after p q most = row_left_over index shape s rest (before, after) (rw (p, q) refl) most

pub before_refused : (index : ℕ) (shape : RowsShape) (s : List ℕ) (e : RowsError) → image_if_at index Before shape.images.0 s ≡ Err e → first_row index shape s ≡ Err e
before_refused index shape s e p = row_refused index shape s e (rw p refl)

pub after_refused : (index : ℕ) (shape : RowsShape) (s behind : List ℕ) (before : Option (List Cell)) (e : RowsError) → image_if_at index Before shape.images.0 s ≡ Ok (before, behind)
    → after_at index shape behind ≡ Err e → first_row index shape s ≡ Err e
after_refused index shape s behind before e p q = row_refused index shape s e (rw (p, q) refl)

-- ---- columns as they are stored

-- A column is refused.
pub refused_here : (columns others : List Typed) (column : Typed) (bits : Bits) (s : List ℕ) (d : Refusal) (all : Result (List ℕ) ImageError) → columns ≡ column ∷ others
    → (cell_at None column bits).reads s ≡ Err d → all ≡ left None columns bits s → IsFault all
refused_here columns others column bits s d all split refused same = record {
  error = record { kind = kind_as d; column = Some bits.index };
  is = same ∙ left_here None columns others column bits s d split refused;
}

-- One more column is taken.
pub one_more_stored : (columns others : List Typed) (column : Typed) (bits : Bits) (s m : List ℕ) (taken : Stored) (xs ys : List StoredColumn) (one : StoredColumn) (all : List Stored)
    → columns ≡ column ∷ others → IsTaken bits s ((cell_at None column bits).reads s) (column_of one) m → ys ≡ xs ++ one ∷ []
    → map column_of xs ++ stored_in columns bits s ≡ all → map column_of ys ++ stored_in others (next_bits bits) m ≡ all
one_more_stored columns others column bits s m taken xs ys one all split h more same =
    let here : stored_in columns bits s ≡ column_of one ∷ stored_in others (next_bits bits) m = rw (split, h.is, h.kept) refl in
    let grown : map column_of ys ≡ map column_of xs ++ column_of one ∷ [] = ap (map column_of) more ∙ map-append column_of xs (one ∷ []) in
    let rest : List Stored = stored_in others (next_bits bits) m in
    ap (λ (t : List Stored). t ++ rest) grown
    ∙ append_assoc (map column_of xs) (column_of one ∷ []) rest
    ∙ ap (λ (t : List Stored). map column_of xs ++ t) (sym here)
    ∙ same

-- All columns are taken.
pub all_stored : (columns : List Typed) (bits : Bits) (s : List ℕ) (xs : List StoredColumn) (all : List Stored) → columns ≡ [] → map column_of xs ++ stored_in columns bits s ≡ all
    → map column_of xs ≡ all
all_stored columns bits s xs all none same =
    let end : map column_of xs ++ [] ≡ all = subst (λ (cs : List Typed). map column_of xs ++ stored_in cs bits s ≡ all) none same in
    sym (append-nil (map column_of xs)) ∙ end
