use Rattle.std.proofs.Common.{◌&&◌, List, [], ◌∷◌, map, Result, sym, subst}
use Rattle.std.proofs.lemmas.List.{map-append}
use Rattle.binlog_images.specs.Cells.{RowCells}
use Rattle.binlog_images.specs.RowCells.{answer_row}
use Rattle.binlog_images.specs.declared.rows_error.RowsError.{RowsError}
use Rattle.binlog_change_lines.specs.RowsHeads.{head_in}
use Rattle.binlog_change_lines.proofs.Lines.{SoFar, one_more}
use Rattle.std.specs.Iterator.{Yields}
use Rattle.binlog_images.specs.RowsLeft.{GivesRow}
use Rattle.binlog_images.specs.declared.rows.Rows.{Rows}
use Rattle.binlog_change_lines.proofs.row_lines.RowLines.write_rows.Goals as goal

pub rows-preserved : goal.rows-preserved
rows-preserved c =
    let facts = c.args.facts.now in
    let head = head_in c.args.head.now facts.refusal in
    let columns = facts.columns.items in
    let so_far = c.rows.yielded in
    let more = one_more head columns (map answer_row so_far) (answer_row c.in-Some.row) c.rows.all_read c.in_ok-is_read.is_read c.rows.self.text.items c.write_item.new.self.text.items c.rows.invariant c.in_ok-is_read.ensures in
    rw c.both-all_read.ensures (subst (λ (items : List (Result RowCells RowsError)). SoFar head columns items (c.rows.all_read && c.in_ok-is_read.is_read) c.write_item.new.self.text.items)
    (sym (map-append answer_row so_far (c.in-Some.row ∷ []))) more)

pub returns : goal.returns
returns c = λ bytes.
    let rows = c.args.rows in
    let given : Yields GivesRow c.into_iter-row-iterator.result c.rows.yielded c.rows.row-iterator = c.rows.yielded_by in
    let from_rows : Yields GivesRow rows c.rows.yielded c.rows.row-iterator = subst (λ (r : Rows). Yields GivesRow r c.rows.yielded c.rows.row-iterator) c.into_iter-row-iterator.ensures.into_iter_gives given in
    let all = c.rows_are_split.ensures.given rows c.rows.yielded bytes (c.next.new.self, (c.rows.row-iterator, from_rows, c.in-None.ensures.steps)) in
    record { items = _; split = all; all = c.rows.invariant.all; lines = c.rows.invariant.lines }
