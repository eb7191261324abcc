-- Lines of rows that are written one after the other.
use Rattle.std.proofs.Common.{◌≡◌, ℕ, Bool, true, false, ◌&&◌, List, [], ◌∷◌, ◌++◌, Result, Ok, Err, refl, sym, ap, ◌∙◌, append_assoc, append-nil}
use Rattle.json.specs.Token.{Token}
use Rattle.binlog_images.specs.Cells.{RowCells}
use Rattle.binlog_images.specs.declared.rows_error.RowsError.{RowsError}
use Rattle.binlog_optional_metadata.specs.declared.column_facts.ColumnFacts.{ColumnFacts}
use Rattle.binlog_json_values.specs.Written.{are_read}
use Rattle.binlog_change_lines.specs.RowLines.{AddsLine, AddsItem, AreRowLines}

abbrev Items : Type 0
Items = List (Result RowCells RowsError)

module _ (head : List Token) (columns : List ColumnFacts) where
  -- One more line.
  lines_more : (items : Items) (row : RowCells) (old new : List ℕ) → AreRowLines head columns items old → AddsLine head columns row old new
      → AreRowLines head columns (items ++ Ok row ∷ []) new
  lines_more [] row old new none added = (added.line, added.of_row, [], refl, added.is ∙ ap (λ (t : List ℕ). t ++ added.line) none ∙ sym (append-nil added.line))
  lines_more (Ok first ∷ items) row old new lines added =
      let others = lines.2 in
      let more = lines_more items row others (others ++ added.line) lines.3 (record { line = added.line; of_row = added.of_row; is = refl }) in
      (lines.0, lines.1, others ++ added.line, more, added.is ∙ ap (λ (t : List ℕ). t ++ added.line) lines.4 ∙ append_assoc lines.0 others added.line)
  lines_more (Err error ∷ items) row old new lines added = absurd lines

  read_more : (items : Items) (item : Result RowCells RowsError) (is_read : Bool) → are_read (item ∷ []) ≡ is_read → are_read (items ++ item ∷ []) ≡ are_read items && is_read
  read_more [] item is_read is = is
  read_more (Ok first ∷ items) item is_read is = read_more items item is_read is
  read_more (Err error ∷ items) item is_read is = refl

  both_true : (a b : Bool) → a && b ≡ true → (a ≡ true) × (b ≡ true)
  both_true true b is = (refl, is)
  both_true false b is = absurd cc

  -- What is known behind so many items.
  pub record SoFar (items : Items) (all_read : Bool) (text : List ℕ) : Type 0 where
    pub all : all_read ≡ are_read items
    pub lines : all_read ≡ true → AreRowLines head columns items text

  -- One more item.
  pub one_more : (items : Items) (item : Result RowCells RowsError) (all_read is_read : Bool) (old new : List ℕ) → SoFar items all_read old
      → AddsItem head columns item is_read old new → SoFar (items ++ item ∷ []) (all_read && is_read) new
  one_more items (Ok row) all_read is_read old new so_far (is, added) = record {
    all = ap (λ (b : Bool). b && is_read) so_far.all ∙ sym (read_more items (Ok row) is_read (sym is));
    lines = λ both. lines_more items row old new (so_far.lines (both_true all_read is_read both).0) added;
  }
  one_more items (Err error) all_read is_read old new so_far is = record {
    all = ap (λ (b : Bool). b && is_read) so_far.all ∙ sym (read_more items (Err error) is_read (sym is));
    lines = λ both. absurd (let no = (both_true all_read is_read both).1 in cc);
  }
