use Rattle.std.proofs.Common.{Bool, cond, Some, None, subst, arith}
use Rattle.std.specs.Iterator.{Yields}
use Rattle.binlog_images.specs.RowsLeft.{row_shape, GivesRow}
use Rattle.binlog_images.specs.declared.rows.Rows.{Rows}
use Rattle.binlog_statistics.specs.RowCounts.{HasRows}
use Rattle.binlog_statistics.proofs.CountedRows.{rows_counted}
use Rattle.binlog_statistics.proofs.row_count.count_rows.Goals as goal

pub returns-then-is_refused : goal.returns-then-is_refused
returns-then-is_refused c = λ bytes.
    let rows = c.args.rows in
    let given : Yields GivesRow c.into_iter-row-iterator.result c.rows.yielded c.rows.row-iterator = c.rows.yielded_by in
    let from_rows : Yields GivesRow rows c.rows.yielded c.rows.row-iterator = subst (λ (r : Rows). Yields GivesRow r c.rows.yielded c.rows.row-iterator) c.into_iter-row-iterator.ensures.into_iter_gives given in
    let all = c.rows_are_split.ensures.given rows c.rows.yielded bytes (c.next.new.self, (c.rows.row-iterator, from_rows, c.in-None.ensures.steps)) in
    subst (λ (b : Bool). HasRows (row_shape rows) rows.row rows.rest.now (cond b None (Some c.rows.count))) c.if-is_refused.true
    (rows_counted (row_shape rows) rows.row rows.rest.now c.rows.yielded c.rows.is_refused c.rows.count all (omega (arith, rows.counted)) c.rows.invariant.0 c.rows.invariant.1)

pub returns-else-is_refused : goal.returns-else-is_refused
returns-else-is_refused c = λ bytes.
    let rows = c.args.rows in
    let given : Yields GivesRow c.into_iter-row-iterator.result c.rows.yielded c.rows.row-iterator = c.rows.yielded_by in
    let from_rows : Yields GivesRow rows c.rows.yielded c.rows.row-iterator = subst (λ (r : Rows). Yields GivesRow r c.rows.yielded c.rows.row-iterator) c.into_iter-row-iterator.ensures.into_iter_gives given in
    let all = c.rows_are_split.ensures.given rows c.rows.yielded bytes (c.next.new.self, (c.rows.row-iterator, from_rows, c.in-None.ensures.steps)) in
    subst (λ (b : Bool). HasRows (row_shape rows) rows.row rows.rest.now (cond b None (Some c.rows.count))) c.if-is_refused.false
    (rows_counted (row_shape rows) rows.row rows.rest.now c.rows.yielded c.rows.is_refused c.rows.count all (omega (arith, rows.counted)) c.rows.invariant.0 c.rows.invariant.1)
