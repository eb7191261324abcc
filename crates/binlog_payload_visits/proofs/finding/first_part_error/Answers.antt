use Rattle.std.proofs.Common.{ℕ, Ok, subst}
use Rattle.std.proofs.lemmas.Result.{err_from_is_err_and}
use Rattle.binlog_events.specs.EventRefs.{view_of}
use Rattle.binlog_payload_visits.specs.Finding.{IsFirstError}
use Rattle.binlog_payload_visits.proofs.NotedItems.{item_noted, memory_alone}
use Rattle.binlog_payload_visits.proofs.finding.first_part_error.Goals as goal

pub returns-clause-ok : goal.returns-clause-ok
returns-clause-ok c =
    let noted = item_noted _ _ c.new-spliced.result.limit c.new-spliced.result.visitor _ 0 (Ok (view_of c.args.event.now)) c.visit_event.new.self.visitor c.in_ok-visit_event.ensures.ok.0 in
    subst (λ (limit : ℕ). IsFirstError limit (Ok (view_of c.args.event.now)) c.visit_event.new.self.visitor.first_error) c.new-spliced.ensures.limit noted.found

pub returns-in_err-visit_event-clause-memory : goal.returns-in_err-visit_event-clause-memory
returns-in_err-visit_event-clause-memory c =
    let p = err_from_is_err_and c.from_residual.result c.from_residual.ensures.1 in
    rw (p.1, p.2) (memory_alone _ _ c.new-spliced.result.limit c.new-spliced.result.visitor _ 0 (Ok (view_of c.args.event.now)) _ c.visit_event.new.self.visitor c.in_err-visit_event.ensures.err.0)
