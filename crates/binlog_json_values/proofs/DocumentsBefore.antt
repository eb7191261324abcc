-- The documents of an image before.
use Rattle.std.proofs.Common.{◌≡◌, ℕ, zero, suc, List, [], ◌∷◌, map, length, Option, Some, None, Result, Ok, Err, refl, sym, ap, ◌∙◌, arith}
use Rattle.std.specs.Prelude.{option_copied}
use Rattle.std.specs.Borrow.{Bor}
use Rattle.std.proofs.lemmas.Bool.{le-ltb}
use Rattle.std.proofs.lemmas.List.{drop_all}
use Rattle.std.specs.List.{slice_get}
use Rattle.binlog_values.specs.declared.value.Value.{Value}
use Rattle.binlog_values.specs.declared.value.Value.TheVariants as values
use Rattle.binlog_images.specs.Cells.{Cell, RowCells, RowsShape}
use Rattle.binlog_images.specs.ColumnValues.{cell_of}
use Rattle.binlog_images.specs.Splits.{row_at, if_taken, first_row}
use Rattle.binlog_images.specs.declared.column_value.ColumnValue.{ColumnValue}
use Rattle.binlog_images.specs.declared.column_value.ColumnValue.TheVariants as columns
use Rattle.binlog_images.specs.declared.rows_error.RowsError.{RowsError}
use Rattle.binlog_json_values.specs.Rows.{document_in, first_document}
use Rattle.binlog_json_values.specs.Before.{before_in}
use Rattle.binlog_json_values.specs.RowWriting.{document_at}

no_json : (v : Value) → ((s : Bor (List ℕ)) → v ≡ values.Json s → ⊥) → document_in (cell_of (columns.Value v)) ≡ None
no_json (values.Float x) other = refl
no_json (values.Double x) other = refl
no_json (values.Timestamp n) other = refl
no_json (values.Timestamp2 t) other = refl
no_json values.Null other = refl
no_json (values.Integer x) other = refl
no_json (values.Decimal x) other = refl
no_json (values.Date x) other = refl
no_json (values.Year x) other = refl
no_json (values.Time x) other = refl
no_json (values.DateTime x) other = refl
no_json (values.DateTime2 x) other = refl
no_json (values.Time2 x) other = refl
no_json (values.Bit x) other = refl
no_json (values.Enum x) other = refl
no_json (values.Set x) other = refl
no_json (values.Bytes x) other = refl
no_json (values.Json s) other = absurd (other s refl)
no_json (values.Geometry x) other = refl
no_json (values.Vector x) other = refl
no_json (values.Compressed x) other = refl

-- A column that is no whole value of type JSON has no document.
pub no_document : (value : ColumnValue) → ((s : Bor (List ℕ)) → value ≡ columns.Value (values.Json s) → ⊥) → document_in (cell_of value) ≡ None
no_document columns.Absent other = refl
no_document columns.Null other = refl
no_document (columns.Value v) other = no_json v (λ s is. other s (ap columns.Value is))
no_document (columns.Diffs s) other = refl

-- The document of the column with this index.
pub document_there : (index : ℕ) (cells : List Cell) (found : Option (List ℕ)) → slice_get (map document_in cells) index ≡ Some found → found ≡ document_at index cells
document_there index [] found is = absurd cc
document_there zero (cell ∷ cells) found is = cc
document_there (suc index) (cell ∷ cells) found is = document_there index cells found is

pub document_beyond : (index : ℕ) (cells : List Cell) → slice_get (map document_in cells) index ≡ None → document_at index cells ≡ None
document_beyond index [] is = ap first_document (drop_all index [] (omega arith))
document_beyond zero (cell ∷ cells) is = absurd cc
document_beyond (suc index) (cell ∷ cells) is = document_beyond index cells is

-- The same, in a list of borrowed documents.
pub known_there : (cells : List Cell) (items : List (Option (Bor (List ℕ)))) (index : ℕ) (document : Option (Bor (List ℕ))) → map option_copied items ≡ map document_in cells
    → slice_get items index ≡ Some document → option_copied document ≡ document_at index cells
known_there cells items index document are is =
    document_there index cells (option_copied document) (ap (λ (l : List (Option (List ℕ))). slice_get l index) (sym are) ∙ mapped items index document is) where
      mapped : (items : List (Option (Bor (List ℕ)))) (index : ℕ) (document : Option (Bor (List ℕ))) → slice_get items index ≡ Some document → slice_get (map option_copied items) index ≡ Some (option_copied document)
      mapped [] index document is = absurd cc
      mapped (item ∷ items) zero document is = let same : item ≡ document = cc in ap (λ (d : Option (Bor (List ℕ))). Some (option_copied d)) same
      mapped (item ∷ items) (suc index) document is = mapped items index document is

-- Where no bytes are left there is no row.
taken_none : (index : ℕ) (r : Result (RowCells × List ℕ) RowsError) → before_in (if_taken index 0 r) ≡ []
taken_none index (Ok x) = rw (le-ltb (length x.1) 0 (omega arith)) refl
taken_none index (Err e) = refl

pub none_before : (index : ℕ) (shape : RowsShape) (s : List ℕ) → s ≡ [] → before_in (first_row index shape s) ≡ []
none_before index shape s over = ap (λ (t : List ℕ). before_in (first_row index shape t)) over ∙ taken_none index (row_at index shape [])
