use Rattle.std.specs.Prelude.{not}
use Rattle.std.proofs.Common.{ap, ◌∙◌, ◌≡◌, ◌+◌, rules}
use Rattle.binlog_payload_visits.specs.Damaged.{saturated}
use Rattle.binlog_payload_visits.proofs.NotedItems.{error_noted, error_kept}
use Rattle.binlog_payload_visits.proofs.noted.NotedPartVisitor.visit_part_error.Goals as goal

pub returns-then-is_none-clause-ok : goal.returns-then-is_none-clause-ok
returns-then-is_none-clause-ok g c =
    let sum : c.saturating_add-self.result ≡ saturated (c.args.self.now.damaged + 1) = search rules in
    error_noted g.T.PartVisitor.visits_part c.args.self.now _ c.args.index c.args.number c.args.error.now c.visit_part_error.new.self c.saturating_add-self.result
    c.in_ok-visit_part_error.ensures.ok (c.is_none.ensures ∙ ap not c.if-is_none.true) sum

pub returns-else-is_none-clause-ok : goal.returns-else-is_none-clause-ok
returns-else-is_none-clause-ok g c =
    error_kept g.T.PartVisitor.visits_part c.args.self.now _ c.args.index c.args.number c.args.error.now c.visit_part_error.new.self
    c.in_ok-visit_part_error.ensures.ok (c.is_none.ensures ∙ ap not c.if-is_none.false)
