use Rattle.std.proofs.Common.{Bool, true, false, Some, None, ap, ◌∙◌}
use Rattle.binlog_json_values.proofs.RowLists.{so_far_more, rest_read, rest_refused, images_stay, written_as}
use Rattle.binlog_json_values.proofs.Visits.{keeps_both}
use Rattle.binlog_json_values.proofs.row_writer.RowWriter.write_rest.Goals as goal

pub returns-then-not-is_read : goal.returns-then-not-is_read
returns-then-not-is_read c = λ bytes.
    let written = written_as c.args.self.now c.rows.self c.in_ok-is_read.field-0 (Some false) c.rows.rest c.write_next.new.rows c.rows.self.line c.write_next.new.self.line c.rows.invariant.0
    (c.in-Some.is ∙ ap (λ (b : Bool). Some b) c.if-not-is_read.true) c.in_ok-is_read.ensures.written in
    rest_refused c.args.self.now.columns.now c.args.rows c.rows.rest c.write_next.new.rows c.args.self.now.line c.rows.self.line c.write_next.new.self.line (c.rows.invariant.2 bytes) written

pub rows-preserved : goal.rows-preserved
rows-preserved c =
    let written = written_as c.args.self.now c.rows.self c.in_ok-is_read.field-0 (Some true) c.rows.rest c.write_next.new.rows c.rows.self.line c.write_next.new.self.line c.rows.invariant.0
    (c.in-Some.is ∙ ap (λ (b : Bool). Some b) c.if-not-is_read.false) c.in_ok-is_read.ensures.written in
    let kept = c.write_next.ensures.kept in (
      keeps_both c.rows.invariant.0 kept,
      images_stay c.args.self.now.columns.now c.rows.self c.write_next.new.self c.rows.rest c.write_next.new.rows c.rows.self.line c.write_next.new.self.line kept c.rows.invariant.1 written,
      λ bytes. so_far_more c.args.self.now.columns.now c.args.rows c.rows.rest c.write_next.new.rows c.args.self.now.line c.rows.self.line c.write_next.new.self.line (c.rows.invariant.2 bytes) written,
    )

pub returns : goal.returns
returns c = λ bytes.
    let written = written_as c.args.self.now c.rows.self c.in_ok-is_read.field-0 None c.rows.rest c.write_next.new.rows c.rows.self.line c.write_next.new.self.line c.rows.invariant.0
    c.in_default.is c.in_ok-is_read.ensures.written in
    rest_read c.args.self.now.columns.now c.args.rows c.rows.rest c.write_next.new.rows c.args.self.now.line c.rows.self.line c.write_next.new.self.line (c.rows.invariant.2 bytes) written
