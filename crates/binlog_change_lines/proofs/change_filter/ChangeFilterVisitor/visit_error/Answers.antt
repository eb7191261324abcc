use Rattle.std.proofs.Common.{inr, refl}
use Rattle.binlog_json_lines.proofs.Answered.{map_ok}
use Rattle.binlog_change_lines.proofs.Refused.{map_if}
use Rattle.binlog_change_lines.proofs.change_filter.ChangeFilterVisitor.visit_error.Goals as goal

pub returns-clause-ok : goal.returns-clause-ok
returns-clause-ok g c =
    let told = record c.args.self.now.filtered.filtered.visitor.visitor.visitor.visitor { gtid = c.clear.new.self } in
    map_ok c.visit_error.result c.visit_error.ensures.ok (λ filters. (told, (refl, c.clear.ensures.bytes), filters))

pub returns-clause-err : goal.returns-clause-err
returns-clause-err g c =
    let told = record c.args.self.now.filtered.filtered.visitor.visitor.visitor.visitor { gtid = c.clear.new.self } in
    map_if c.visit_error.result c.visit_error.ensures.err (λ e refused. inr (told, (refl, c.clear.ensures.bytes), refused))
