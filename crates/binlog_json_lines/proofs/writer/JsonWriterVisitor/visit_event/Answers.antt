use Rattle.std.proofs.Common.{inl, refl}
use Rattle.binlog_json_lines.proofs.Answered.{map_ok, map_err, or_none}
use Rattle.binlog_json_lines.proofs.writer.JsonWriterVisitor.visit_event.Goals as goal

pub returns-clause-ok : goal.returns-clause-ok
returns-clause-ok g c =
    let shown = c.in_ok-text.ensures.shown in
    map_ok c.write_line.result c.write_line.ensures.ok
    (λ appended. (shown.contradiction, record { text = c.in_ok-text.text.now; line = shown.line; written = rw c.new-output.ensures.value at appended }, shown.noted, or_none _, refl))

pub returns-clause-err : goal.returns-clause-err
returns-clause-err g c =
    let shown = c.in_ok-text.ensures.shown in
    map_err c.write_line.result c.write_line.ensures.front c.write_line.ensures.err
    (λ e front is. (inl (is, record { text = c.in_ok-text.text.now; line = (shown.contradiction, shown.line); written = rw c.new-output.ensures.value at front }), refl, refl))
