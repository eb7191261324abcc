-- Rows that are written.
use Rattle.std.specs.Prelude.{◌≡◌, ℕ, ◌&&◌, Bool, true, List, [], ◌∷◌, map, is_some, Result, Ok, is_ok}
use Rattle.json.specs.Token.{Token}
use Rattle.binlog_images.specs.Cells.{RowCells}
use Rattle.binlog_images.specs.RowsLeft.{row_shape}
use Rattle.binlog_images.specs.Splits.{first_row, AreRows}
use Rattle.binlog_images.specs.declared.rows.Rows.{Rows}
use Rattle.binlog_images.specs.declared.rows_error.RowsError.{RowsError}
use Rattle.binlog_optional_metadata.specs.Facts.{Facts, facts_of}
use Rattle.binlog_optional_metadata.specs.declared.column_facts.ColumnFacts.{ColumnFacts}
use Rattle.binlog_json_values.specs.Parts.{Shows}
use Rattle.binlog_json_values.specs.Rows.{rows_parts}

-- All rows are read: none is refused.
abbrev pub are_read : List (Result RowCells RowsError) → Bool
are_read [] = true
are_read (item ∷ items) = is_ok item && are_read items

-- The array of the rows into which the bytes split, one by one, up to their end or to the first that is refused. There
-- is exactly one such split (`rows_are_split` of `binlog_images`). `all_read` says whether none is refused.
pub record ShowsRows (columns : List ColumnFacts) (rows : Rows) (all_read : Bool) (old new : List Token) : Type 0 where
  pub items : List (Result RowCells RowsError)
  pub are : AreRows (row_shape rows) rows.row rows.rest.now items
  pub read : all_read ≡ are_read items
  pub shown : Shows old new (rows_parts columns items)

-- The same, of columns with these facts.
pub record ShowsKeptRows (kept : List Facts) (rows : Rows) (all_read : Bool) (old new : List Token) : Type 0 where
  pub columns : List ColumnFacts
  pub are : map facts_of columns ≡ kept
  pub shown : ShowsRows columns rows all_read old new

-- These images are those of the first row that is left, if there is one that is read.
abbrev pub HasImages : Bool → Bool → Rows → Type 0
HasImages has_before has_after rows = (cells : RowCells) (rest : List ℕ) → first_row rows.row (row_shape rows) rows.rest.now ≡ Ok (cells, rest)
    → (has_before ≡ is_some cells.0) × (has_after ≡ is_some cells.1)
