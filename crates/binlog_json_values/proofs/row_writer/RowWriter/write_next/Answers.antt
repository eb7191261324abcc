use Rattle.std.proofs.Common.{◌≡◌, ◌++◌, refl, ap, ◌∙◌}
use Rattle.binlog_images.specs.Fronts.{row_front}
use Rattle.binlog_images.specs.RowsLeft.{row_shape}
use Rattle.binlog_json_values.specs.Brackets.{row_begins}
use Rattle.binlog_json_values.specs.Rows.{refusal_tokens}
use Rattle.binlog_json_values.proofs.Parts.{shows_exact}
use Rattle.binlog_json_values.proofs.RowSteps.{begun_writer, marked_more, marked_visited, row_written, visit_keeps, visited_row, visited_error}
use Rattle.binlog_json_values.proofs.row_writer.RowWriter.write_next.Goals as goal

pub returns-then-self-clause-kept : goal.returns-then-self-clause-kept
returns-then-self-clause-kept c =
    let first = begun_writer c.args.rows.now c.visit_next.new.self _ c.visit_next.new.visitor c.visit_next.result c.visit_next.ensures in
    let kept = visit_keeps c.args.rows.now c.visit_next.new.self first c.visit_next.new.visitor c.visit_next.result c.visit_next.ensures in
    record { columns = kept.columns; has_before = kept.has_before; has_after = kept.has_after }

pub returns-in_err-end_row-in-Ok-clause-kept : goal.returns-in_err-end_row-in-Ok-clause-kept
returns-in_err-end_row-in-Ok-clause-kept c =
    let first = begun_writer c.args.rows.now c.visit_next.new.self _ c.visit_next.new.visitor c.visit_next.result c.visit_next.ensures in
    let kept = visit_keeps c.args.rows.now c.visit_next.new.self first c.visit_next.new.visitor c.visit_next.result c.visit_next.ensures in
    record { columns = kept.columns; has_before = kept.has_before; has_after = kept.has_after }

pub returns-in_err-write_refusal-in-Err-clause-kept : goal.returns-in_err-write_refusal-in-Err-clause-kept
returns-in_err-write_refusal-in-Err-clause-kept c =
    let first = begun_writer c.args.rows.now c.visit_next.new.self _ c.visit_next.new.visitor c.visit_next.result c.visit_next.ensures in
    let kept = visit_keeps c.args.rows.now c.visit_next.new.self first c.visit_next.new.visitor c.visit_next.result c.visit_next.ensures in
    record { columns = kept.columns; has_before = kept.has_before; has_after = kept.has_after }

pub returns-in_ok-end_row-in-Ok-clause-kept : goal.returns-in_ok-end_row-in-Ok-clause-kept
returns-in_ok-end_row-in-Ok-clause-kept c =
    let first = begun_writer c.args.rows.now c.visit_next.new.self _ c.visit_next.new.visitor c.visit_next.result c.visit_next.ensures in
    let kept = visit_keeps c.args.rows.now c.visit_next.new.self first c.visit_next.new.visitor c.visit_next.result c.visit_next.ensures in
    record { columns = kept.columns; has_before = kept.has_before; has_after = kept.has_after }

pub returns-in_ok-write_refusal-in-Err-clause-kept : goal.returns-in_ok-write_refusal-in-Err-clause-kept
returns-in_ok-write_refusal-in-Err-clause-kept c =
    let first = begun_writer c.args.rows.now c.visit_next.new.self _ c.visit_next.new.visitor c.visit_next.result c.visit_next.ensures in
    let kept = visit_keeps c.args.rows.now c.visit_next.new.self first c.visit_next.new.visitor c.visit_next.result c.visit_next.ensures in
    record { columns = kept.columns; has_before = kept.has_before; has_after = kept.has_after }

pub cut-requires-in-Err : goal.cut-requires-in-Err
cut-requires-in-Err c =
    let first = begun_writer c.args.rows.now c.visit_next.new.self _ c.visit_next.new.visitor c.visit_next.result c.visit_next.ensures in
    let refused = visited_error c.args.rows.now c.visit_next.new.self first c.visit_next.new.visitor c.visit_next.result c.in-Some.visited c.in-Err.error c.in-Some.is c.in-Err.is c.visit_next.ensures in
    let front = row_front c.args.rows.now.row (row_shape c.args.rows.now) c.args.rows.now.rest.now in
    let more = marked_visited c.mark-start.result front first c.visit_next.new.visitor c.args.self.now.line (row_begins c.args.self.now.has_before) c.mark-start.ensures c.in_ok-begin_row.ensures refused.2 c.if-self.false in
    marked_more c.mark-start.result c.args.self.now.line c.visit_next.new.visitor.line more.0 c.mark-start.ensures more.1

pub returns-in_ok-write_refusal-in-Err-clause-written : goal.returns-in_ok-write_refusal-in-Err-clause-written
returns-in_ok-write_refusal-in-Err-clause-written c =
    let first = begun_writer c.args.rows.now c.visit_next.new.self _ c.visit_next.new.visitor c.visit_next.result c.visit_next.ensures in
    let refused = visited_error c.args.rows.now c.visit_next.new.self first c.visit_next.new.visitor c.visit_next.result c.in-Some.visited c.in-Err.error c.in-Some.is c.in-Err.is c.visit_next.ensures in
    let front = row_front c.args.rows.now.row (row_shape c.args.rows.now) c.args.rows.now.rest.now in
    let more = marked_visited c.mark-start.result front first c.visit_next.new.visitor c.args.self.now.line (row_begins c.args.self.now.has_before) c.mark-start.ensures c.in_ok-begin_row.ensures refused.2 c.if-self.false in
    let start : c.cut-in-Err.new.self ≡ c.args.self.now.line = c.cut-in-Err.ensures c.args.self.now.line more.0 c.mark-start.ensures more.1 in
    let tokens = refusal_tokens c.in-Err.error in
    (c.in-Err.error, refused.0, refused.1, shows_exact c.args.self.now.line c.write_refusal.new.line tokens (c.in_ok-write_refusal-in-Err.ensures ∙ ap (λ l. l ++ tokens) start))

pub returns-in_ok-end_row-in-Ok-clause-written : goal.returns-in_ok-end_row-in-Ok-clause-written
returns-in_ok-end_row-in-Ok-clause-written c =
    let first = begun_writer c.args.rows.now c.visit_next.new.self _ c.visit_next.new.visitor c.visit_next.result c.visit_next.ensures in
    let visited = visited_row c.args.rows.now c.visit_next.new.self first c.visit_next.new.visitor c.visit_next.result c.in-Some.visited c.in-Ok.field-0 c.in-Some.is c.in-Ok.is c.visit_next.ensures in
    row_written first c.visit_next.new.visitor c.args.rows.now c.visit_next.new.self c.args.self.now.line c.end_row.new.line c.requires c.begin.ensures c.in_ok-begin_row.ensures refl visited c.if-self.false
    c.in_ok-end_row-in-Ok.ensures
