-- One row that is written, or refused, or isn't there.
use Rattle.std.proofs.Common.{◌≡◌, ℕ, Bool, true, false, ◌||◌, List, [], ◌++◌, Option, None, Some, Result, Ok, Err, sym, ap, subst, ◌∙◌, append_assoc}
use Rattle.json.specs.Token.{Token}
use Rattle.json_line.specs.Marks.{StandsBehind, IsMarked}
use Rattle.json_line.specs.declared.line.Mark.{Mark}
use Rattle.binlog_images.specs.Cells.{RowCells}
use Rattle.binlog_images.specs.RowsLeft.{row_shape}
use Rattle.binlog_images.specs.Splits.{first_row}
use Rattle.binlog_images.specs.Visits.{VisitsFirst, VisitsImages, VisitsRow}
use Rattle.binlog_images.specs.Fronts.{row_front}
use Rattle.binlog_images.specs.declared.rows_error.RowsError.{RowsError}
use Rattle.binlog_images.specs.declared.rows.Rows.{Rows}
use Rattle.binlog_json_values.specs.Brackets.{row_begins, row_ends}
use Rattle.binlog_json_values.specs.RowWriting.{Keeps, row_before, ShowsColumn, WritesNext}
use Rattle.binlog_json_values.specs.Rows.{before_or_none}
use Rattle.binlog_json_values.specs.Before.{before_in, cells_before}
use Rattle.binlog_json_values.specs.Written.{HasImages}
use Rattle.binlog_json_values.specs.declared.row_writer.RowWriter.{RowWriter}
use Rattle.binlog_json_values.proofs.Visits.{is_begun, keeps_same, row_wrote, row_shown, row_keeps}

not_begun : (a b c : Bool) → b ≡ false → a ≡ c || b → a ≡ c
not_begun a b true none is = is
not_begun a b false none is = is ∙ none

-- A row is written, between its beginning and its end.
pub row_written : (first last : RowWriter) (rows next : Rows) (start end : List Token) → HasImages first.has_before first.has_after rows → first.before.rows ≡ rows
    → first.line ≡ start ++ row_begins first.has_before → first.after_begun ≡ false → VisitsFirst ShowsColumn rows first next last → last.failed ≡ false
    → end ≡ last.line ++ row_ends last.has_before last.has_after last.after_begun → WritesNext first.columns.now rows start (Some true) next end
row_written first last rows next start end has row begins none visited works ends =
    let cells : RowCells = visited.cells in
    let wrote = row_wrote cells first last visited.visited works in
    let images = has cells next.rest.now visited.first in
    let before : row_before first ≡ before_or_none cells.0 = ap cells_before row ∙ ap (λ (r : Result (RowCells × List ℕ) RowsError). before_in r) visited.first in
    let begun : last.after_begun ≡ is_begun cells.1 = not_begun last.after_begun first.after_begun (is_begun cells.1) none wrote.begun in
    let closed : end ≡ last.line ++ row_ends first.has_before first.has_after last.after_begun =
    subst (λ (b : Bool). end ≡ last.line ++ row_ends first.has_before b last.after_begun) wrote.kept.has_after
    (subst (λ (b : Bool). end ≡ last.line ++ row_ends b last.has_after last.after_begun) wrote.kept.has_before ends) in
    (cells, visited.first, visited.row, visited.shape, row_shown first.columns.now (row_before first) cells first.has_before first.has_after last.after_begun start first.line last.line end before images.0 images.1 begun begins wrote.shown closed)

-- A line that is marked, with tokens behind the mark.
pub marked_more : (mark : Mark) (start line more : List Token) → StandsBehind mark start → line ≡ start ++ more → IsMarked mark line
marked_more mark start line more stands is = record { before = start; after = more; stands = stands; is = is }

-- The mark in front of a row that is refused still stands.
pub marked_visited : (mark : Mark) (row : RowCells) (first last : RowWriter) (start more : List Token) → StandsBehind mark start → first.line ≡ start ++ more
    → VisitsImages ShowsColumn row first last → last.failed ≡ false → (tokens : List Token) × (last.line ≡ start ++ tokens)
marked_visited mark row first last start more stands begins visited works =
    let shown = (row_wrote row first last visited works).shown in
    (more ++ shown.tokens, shown.is ∙ ap (λ (l : List Token). l ++ shown.tokens) begins ∙ append_assoc start more shown.tokens)

-- ---- the answers of a visit

abbrev pub Visited : Type 0
Visited = Option (Result (Unit {0}) RowsError)

-- The writer that visits a row: its row is begun.
abbrev pub begun_writer : (rows next : Rows) (first last : RowWriter) (result : Visited) → VisitsRow ShowsColumn rows first result next last → RowWriter
begun_writer rows next first last result visited = first

pub visit_keeps : (rows next : Rows) (first last : RowWriter) (result : Visited) → VisitsRow ShowsColumn rows first result next last → Keeps first last
visit_keeps rows next first last None visited = subst (Keeps first) (sym visited.2) (keeps_same first)
visit_keeps rows next first last (Some (Ok done)) visited = row_keeps visited.cells first last visited.visited
visit_keeps rows next first last (Some (Err e)) visited = row_keeps (row_front rows.row (row_shape rows) rows.rest.now) first last visited.5

pub visited_row : (rows next : Rows) (first last : RowWriter) (result : Visited) (one : Result (Unit {0}) RowsError) (done : Unit {0}) → result ≡ Some one → one ≡ Ok done
    → VisitsRow ShowsColumn rows first result next last → VisitsFirst ShowsColumn rows first next last
visited_row rows next first last result one done is ok visited =
    subst (λ (r : Visited). VisitsRow ShowsColumn rows first r next last) (is ∙ ap (λ (r : Result (Unit {0}) RowsError). Some r) ok) visited

pub visited_error : (rows next : Rows) (first last : RowWriter) (result : Visited) (one : Result (Unit {0}) RowsError) (error : RowsError) → result ≡ Some one → one ≡ Err error
    → VisitsRow ShowsColumn rows first result next last
    → (¬ (rows.rest.now ≡ [])) × (first_row rows.row (row_shape rows) rows.rest.now ≡ Err error) × VisitsImages ShowsColumn (row_front rows.row (row_shape rows) rows.rest.now) first last
visited_error rows next first last result one error is err visited =
    let whole = subst (λ (r : Visited). VisitsRow ShowsColumn rows first r next last) (is ∙ ap (λ (r : Result (Unit {0}) RowsError). Some r) err) visited in
    (whole.0, whole.1, whole.5)
