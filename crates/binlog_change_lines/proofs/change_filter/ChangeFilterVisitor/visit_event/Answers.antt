use Rattle.std.proofs.Common.{ℕ, Option, String, inr, ap}
use Rattle.std.specs.declared.alloc.Global.{Global}
use Rattle.binlog_json_lines.proofs.Answered.{map_ok}
use Rattle.binlog_change_lines.specs.declared.change_writer.ChangeWriter.{ChangeWriter}
use Rattle.binlog_change_lines.proofs.Refused.{map_if}
use Rattle.binlog_change_lines.proofs.change_filter.ChangeFilterVisitor.visit_event.Goals as goal

-- The writer that is told where the event begins, and the GTID of its transaction.
abbrev told : {W : Type 0} → ChangeWriter W → Option ℕ → String Global → ChangeWriter W
told writer position gtid = record writer { position = position; gtid = gtid }

pub returns-clause-ok : goal.returns-clause-ok
returns-clause-ok g c =
    let was = c.args.self.now.filtered.filtered.visitor.visitor.visitor.visitor in
    let gtid = c.follow_gtid.new.text in
    map_ok c.visit_event.result c.visit_event.ensures.ok
    (λ filters. (told was c.of_event-position.result gtid, (ap (λ (p : Option ℕ). told was p gtid) c.of_event-position.ensures, c.in_ok-follow_gtid.ensures.ok), filters))

pub returns-clause-err : goal.returns-clause-err
returns-clause-err g c =
    let was = c.args.self.now.filtered.filtered.visitor.visitor.visitor.visitor in
    let gtid = c.follow_gtid.new.text in
    map_if c.visit_event.result c.visit_event.ensures.err
    (λ e refused. inr (told was c.of_event-position.result gtid, (ap (λ (p : Option ℕ). told was p gtid) c.of_event-position.ensures, c.in_ok-follow_gtid.ensures.ok), refused))
