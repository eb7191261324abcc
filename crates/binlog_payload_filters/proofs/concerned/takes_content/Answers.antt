use Rattle.std.proofs.Common.{ℕ, Ok, ap, subst}
use Rattle.std.proofs.lemmas.Result.{err_from_is_err_and}
use Rattle.binlog_events.specs.EventRefs.{view_of}
use Rattle.binlog_filters.specs.declared.tables.TableFilter.{TableFilter}
use Rattle.binlog_payload_filters.specs.Payloads.{TakesContent}
use Rattle.binlog_payload_filters.specs.declared.concerned.Concerned.{Concerned}
use Rattle.binlog_payload_filters.proofs.TakenContent.{content_taken, memory_alone}
use Rattle.binlog_payload_filters.proofs.concerned.takes_content.Goals as goal

pub returns-clause-ok : goal.returns-clause-ok
returns-clause-ok c =
    let event = view_of c.args.event.now in
    let found = c.visit_event.new.self.visitor.is_taken in
    let is = c.new-spliced.ensures.visitor in
    let taken = content_taken c.new-spliced.result.limit c.new-spliced.result.visitor _ 0 event c.visit_event.new.self.visitor (ap (λ (f : Concerned). f.is_taken) is) c.in_ok-visit_event.ensures.ok.0 in
    subst (λ (t : TableFilter). TakesContent c.args.limit t event found) (ap (λ (f : Concerned). f.tables.now) is)
    (subst (λ (limit : ℕ). TakesContent limit c.new-spliced.result.visitor.tables.now event found) c.new-spliced.ensures.limit taken)

pub returns-in_err-visit_event-clause-memory : goal.returns-in_err-visit_event-clause-memory
returns-in_err-visit_event-clause-memory c =
    let p = err_from_is_err_and c.from_residual.result c.from_residual.ensures.1 in
    rw (p.1, p.2) (memory_alone c.new-spliced.result.limit c.new-spliced.result.visitor _ 0 (Ok (view_of c.args.event.now)) _ c.visit_event.new.self.visitor c.in_err-visit_event.ensures.err.0)
