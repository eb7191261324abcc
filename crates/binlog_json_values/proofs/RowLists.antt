-- Rows that are written one after the other.
use Rattle.std.proofs.Common.{◌≡◌, ℕ, ◌+◌, Bool, true, false, List, [], ◌∷◌, ◌++◌, flat_map, length, ◌<◌, Option, Some, None, Result, Ok, Err, IfOk, refl, sym, ap, subst, ◌∙◌, append_assoc, append-nil}
use Rattle.json.specs.Token.{Token, begin_array, end_array}
use Rattle.binlog_wire.specs.Fields.{IsBytes}
use Rattle.binlog_images.specs.Cells.{RowCells, RowsShape}
use Rattle.binlog_images.specs.RowsLeft.{row_shape}
use Rattle.binlog_images.specs.Splits.{AreRows}
use Rattle.binlog_images.specs.declared.rows.Rows.{Rows}
use Rattle.binlog_images.specs.declared.rows_error.RowsError.{RowsError}
use Rattle.binlog_optional_metadata.specs.declared.column_facts.ColumnFacts.{ColumnFacts}
use Rattle.binlog_json_values.specs.Parts.{Part, Shows}
use Rattle.binlog_json_values.specs.Rows.{item_parts}
use Rattle.binlog_json_values.specs.Written.{are_read, ShowsRows, HasImages}
use Rattle.binlog_json_values.specs.RowWriting.{Keeps, WritesNext, WritesRest}
use Rattle.binlog_json_values.specs.declared.row_writer.RowWriter.{RowWriter}
use Rattle.binlog_json_values.proofs.FirstRows.{first_of_rows, fewer_left}
use Rattle.binlog_json_values.proofs.Presence.{same_images}
use Rattle.binlog_json_values.proofs.Parts.{shows_exact, shows_both}

abbrev Items : Type 0
Items = List (Result RowCells RowsError)

-- The rows so far: with those to come, they are the rows of all bytes.
pub record SoFar (columns : List ColumnFacts) (rows rest : Rows) (old new : List Token) : Type 0 where
  pub items : Items
  pub bytes : IsBytes rest.rest.now
  pub shape : row_shape rest ≡ row_shape rows
  pub are : (more : Items) → AreRows (row_shape rows) rest.row rest.rest.now more → AreRows (row_shape rows) rows.row rows.rest.now (items ++ more)
  pub read : (more : Items) → are_read (items ++ more) ≡ are_read more
  pub shown : Shows old new (flat_map (item_parts columns) items)

pub so_far_none : (columns : List ColumnFacts) (rows : Rows) (line : List Token) → IsBytes rows.rest.now → SoFar columns rows rows line line
so_far_none columns rows line bytes = record {
  items = [];
  bytes = bytes;
  shape = refl;
  are = λ more are. are;
  read = λ more. refl;
  shown = shows_exact line line [] (sym (append-nil line));
}

items_more : (columns : List ColumnFacts) (items : Items) (item : Result RowCells RowsError)
    → flat_map (item_parts columns) (items ++ item ∷ []) ≡ flat_map (item_parts columns) items ++ item_parts columns item
items_more columns [] item = append-nil (item_parts columns item)
items_more columns (first ∷ items) item =
    ap (λ (l : List Part). item_parts columns first ++ l) (items_more columns items item)
    ∙ sym (append_assoc (item_parts columns first) (flat_map (item_parts columns) items) (item_parts columns item))

-- One more item, written.
more_shown : (columns : List ColumnFacts) (items : Items) (item : Result RowCells RowsError) (old mid new : List Token)
    → Shows old mid (flat_map (item_parts columns) items) → Shows mid new (item_parts columns item) → Shows old new (flat_map (item_parts columns) (items ++ item ∷ []))
more_shown columns items item old mid new so_far more = subst (Shows old new) (sym (items_more columns items item)) (shows_both so_far more)

-- One more row that is read.
pub so_far_more : (columns : List ColumnFacts) (rows rest next : Rows) (old mid new : List Token) → SoFar columns rows rest old mid
    → WritesNext columns rest mid (Some true) next new → SoFar columns rows next old new
so_far_more columns rows rest next old mid new so_far (cells, first, row, shape, shown) =
    let whole : RowsShape = row_shape rows in
    let one = first_of_rows rest.row (row_shape rest) rest.rest.now next.rest.now cells so_far.bytes first in
    record {
      items = so_far.items ++ Ok cells ∷ [];
      bytes = one.0;
      shape = shape ∙ so_far.shape;
      are = λ more are.
          let here : AreRows whole (rest.row + 1) next.rest.now more = subst (λ (n : ℕ). AreRows whole n next.rest.now more) row are in
          let moved : AreRows (row_shape rest) (rest.row + 1) next.rest.now more = subst (λ (s : RowsShape). AreRows s (rest.row + 1) next.rest.now more) (sym so_far.shape) here in
          let both : AreRows (row_shape rest) rest.row rest.rest.now (Ok cells ∷ more) = one.1 more moved in
          let back : AreRows whole rest.row rest.rest.now (Ok cells ∷ more) = subst (λ (s : RowsShape). AreRows s rest.row rest.rest.now (Ok cells ∷ more)) so_far.shape both in
          subst (AreRows whole rows.row rows.rest.now) (sym (append_assoc so_far.items (Ok cells ∷ []) more)) (so_far.are (Ok cells ∷ more) back);
      read = λ more. ap are_read (append_assoc so_far.items (Ok cells ∷ []) more) ∙ so_far.read (Ok cells ∷ more);
      shown = more_shown columns so_far.items (Ok cells) old mid new so_far.shown shown;
    }

-- All rows are read.
pub rest_read : (columns : List ColumnFacts) (rows rest next : Rows) (old mid new : List Token) → SoFar columns rows rest old mid
    → WritesNext columns rest mid None next new → WritesRest columns rows true old new
rest_read columns rows rest next old mid new so_far (none, same) = record {
  items = so_far.items;
  are = subst (AreRows (row_shape rows) rows.row rows.rest.now) (append-nil so_far.items) (so_far.are [] none);
  read = sym (so_far.read []) ∙ ap are_read (append-nil so_far.items);
  shown = subst (λ (line : List Token). Shows old line (flat_map (item_parts columns) so_far.items)) (sym same) so_far.shown;
}

-- A row is refused.
pub rest_refused : (columns : List ColumnFacts) (rows rest next : Rows) (old mid new : List Token) → SoFar columns rows rest old mid
    → WritesNext columns rest mid (Some false) next new → WritesRest columns rows false old new
rest_refused columns rows rest next old mid new so_far (error, some, refused, shown) =
    let here : AreRows (row_shape rows) rest.row rest.rest.now (Err error ∷ []) =
    subst (λ (s : RowsShape). AreRows s rest.row rest.rest.now (Err error ∷ [])) so_far.shape (some, refused, refl) in
    record {
      items = so_far.items ++ Err error ∷ [];
      are = so_far.are (Err error ∷ []) here;
      read = sym (so_far.read (Err error ∷ []));
      shown = more_shown columns so_far.items (Err error) old mid new so_far.shown shown;
    }

-- The array of all rows.
pub rows_shown : (columns : List ColumnFacts) (rows : Rows) (all_read : Bool) (old begun mid new : List Token) → begun ≡ old ++ begin_array ∷ []
    → WritesRest columns rows all_read begun mid → new ≡ mid ++ end_array ∷ [] → ShowsRows columns rows all_read old new
rows_shown columns rows all_read old begun mid new begins rest ends = record {
  items = rest.items;
  are = rest.are;
  read = rest.read;
  shown = shows_both (shows_exact old begun (begin_array ∷ []) begins) (shows_both rest.shown (shows_exact mid new (end_array ∷ []) ends));
}

-- ---- the steps

-- The images that rows have stay the same from row to row.
pub images_stay : (columns : List ColumnFacts) (old new : RowWriter) (rows next : Rows) (before after : List Token) → Keeps old new
    → HasImages old.has_before old.has_after rows → WritesNext columns rows before (Some true) next after → HasImages new.has_before new.has_after next
images_stay columns old new rows next before after kept has (cells, first, row, shape, shown) = λ others rest is.
    let one = has cells next.rest.now first in
    let same = same_images rows.row next.row (row_shape rows) (row_shape next) rows.rest.now next.rest.now next.rest.now rest cells others shape first is in
    (kept.has_before ∙ one.0 ∙ same.0, kept.has_after ∙ one.1 ∙ same.1)

-- A row takes bytes.
pub row_shorter : (columns : List ColumnFacts) (rows next : Rows) (before after : List Token) → WritesNext columns rows before (Some true) next after
    → length next.rest.now < length rows.rest.now
row_shorter columns rows next before after (cells, first, row, shape, shown) = fewer_left rows.row (row_shape rows) rows.rest.now next.rest.now cells first

-- What is written with the columns of the writer is written with those that it had.
pub with_columns : (old new : RowWriter) (read : Option Bool) (rows next : Rows) (before after : List Token) → Keeps old new → WritesNext new.columns.now rows before read next after
    → WritesNext old.columns.now rows before read next after
with_columns old new read rows next before after kept written = subst (λ (l : List ColumnFacts). WritesNext l rows before read next after) (ap (λ b. b.now) kept.columns) written

-- What is written, with the columns that the writer had, where the answer is known.
pub written_as : (old new : RowWriter) (read known : Option Bool) (rows next : Rows) (before after : List Token) → Keeps old new → read ≡ known
    → WritesNext new.columns.now rows before read next after → WritesNext old.columns.now rows before known next after
written_as old new read known rows next before after kept is written =
    subst (λ (r : Option Bool). WritesNext old.columns.now rows before r next after) is (with_columns old new read rows next before after kept written)

-- What holds of a result that is known.
pub of_ok : {A E : Type 0} (P : A → Type 0) (r : Result A E) (x : A) → r ≡ Ok x → IfOk r P → P x
of_ok {A} {E} P r x is h = subst (λ (s : Result A E). IfOk s P) is h
