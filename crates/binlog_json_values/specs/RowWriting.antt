-- What a writer of rows has written.
use Rattle.std.specs.Prelude.{◌≡◌, ℕ, ◌+◌, Bool, true, false, ◌||◌, List, [], ◌∷◌, ◌++◌, drop, flat_map, Option, None, Some, Result, Ok, Err}
use Rattle.json.specs.Token.{Token}
use Rattle.binlog_images.specs.Cells.{Cell, RowCells}
use Rattle.binlog_images.specs.RowsLeft.{row_shape}
use Rattle.binlog_images.specs.Splits.{first_row, AreRows}
use Rattle.binlog_images.specs.declared.rows.Rows.{Rows}
use Rattle.binlog_images.specs.declared.rows_error.ImageKind.{ImageKind}
use Rattle.binlog_images.specs.declared.rows_error.RowsError.{RowsError}
use Rattle.binlog_optional_metadata.specs.declared.column_facts.ColumnFacts.{ColumnFacts}
use Rattle.binlog_optional_metadata.specs.Facts.{facts_of}
use Rattle.binlog_json_values.specs.Brackets.{after_if, begins_after}
use Rattle.binlog_json_values.specs.Parts.{Part, exact, Shows}
use Rattle.binlog_json_values.specs.Rows.{first_document, cell_parts, row_parts, refusal_tokens, item_parts}
use Rattle.binlog_json_values.specs.Before.{cells_before}
use Rattle.binlog_json_values.specs.Written.{are_read}
use Rattle.binlog_json_values.specs.declared.row_writer.RowWriter.{RowWriter}

-- The table and its images stay the same.
pub record Keeps (old new : RowWriter) : Type 0 where
  pub columns : new.columns ≡ old.columns
  pub has_before : new.has_before ≡ old.has_before
  pub has_after : new.has_after ≡ old.has_after

-- The member of the first of these columns, with this index.
abbrev pub first_member : ℕ → List ColumnFacts → Option (List ℕ) → Cell → List Part
first_member index [] before cell = []
first_member index (facts ∷ others) before cell = cell_parts (facts_of facts) index before cell

-- The columns of the image before of the row that is written.
abbrev pub row_before : RowWriter → List Cell
row_before writer = cells_before writer.before.rows

-- The document there of the column with this index.
abbrev pub document_at : ℕ → List Cell → Option (List ℕ)
document_at index before = first_document (drop index before)

-- Parts are written of the same row, and its image after is begun or not.
pub record Wrote (old new : RowWriter) (begins : Bool) (parts : List Part) : Type 0 where
  pub kept : Keeps old new
  pub row : new.before.rows ≡ old.before.rows
  pub begun : new.after_begun ≡ begins || old.after_begun
  pub shown : Shows old.line new.line parts

-- The member of the column with this index of an image.
abbrev pub WroteColumn : RowWriter → ImageKind → ℕ → Cell → RowWriter → Type 0
WroteColumn old image index cell new =
    Wrote old new (begins_after image index) (exact (after_if (begins_after image index) old.has_before) ++ first_member index (drop index old.columns.now) (document_at index (row_before old)) cell)

-- A visit writes the member, or an allocation failed, now or before.
pub record ShowsColumn (old : RowWriter) (image : ImageKind) (index : ℕ) (cell : Cell) (new : RowWriter) : Type 0 where
  pub kept : Keeps old new
  pub wrote : new.failed ≡ false → (old.failed ≡ false) × WroteColumn old image index cell new

-- The first row that is left is written, or its refusal; or nothing is left, and nothing is written.
abbrev pub WritesNext : List ColumnFacts → Rows → List Token → Option Bool → Rows → List Token → Type 0
WritesNext columns old before None new after = (old.rest.now ≡ []) × (after ≡ before)
WritesNext columns old before (Some true) new after = (cells : RowCells) × (first_row old.row (row_shape old) old.rest.now ≡ Ok (cells, new.rest.now))
    × (new.row ≡ old.row + 1) × (row_shape new ≡ row_shape old) × Shows before after (row_parts columns cells)
WritesNext columns old before (Some false) new after = (error : RowsError) × (¬ (old.rest.now ≡ [])) × (first_row old.row (row_shape old) old.rest.now ≡ Err error)
    × Shows before after (exact (refusal_tokens error))

-- The rows into which the bytes split.
pub record WritesRest (columns : List ColumnFacts) (rows : Rows) (all_read : Bool) (old new : List Token) : Type 0 where
  pub items : List (Result RowCells RowsError)
  pub are : AreRows (row_shape rows) rows.row rows.rest.now items
  pub read : all_read ≡ are_read items
  pub shown : Shows old new (flat_map (item_parts columns) items)
