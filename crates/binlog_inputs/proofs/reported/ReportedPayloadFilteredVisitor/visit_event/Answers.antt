use Rattle.std.proofs.Common.{refl}
use Rattle.binlog_payload_filters.specs.Filtering.{FiltersPayloads}
use Rattle.binlog_inputs.proofs.Reporting.{reported, noted, unnoted}
use Rattle.binlog_inputs.proofs.reported.ReportedPayloadFilteredVisitor.visit_event.Goals as goal

pub returns-then-refused-clause-ok : goal.returns-then-refused-clause-ok
returns-then-refused-clause-ok g c =
    reported c.visit_event-answer.result (FiltersPayloads g.T.Visitor.visits) (λ filtered. g.T.Refusing.refusals filtered.filtered.visitor) _ _ _ _ _ _ c.self.view_is
    (noted c.self.inside.has_errors _ _ (rw (c.refused.ensures, c.refused-refused.ensures) at c.if-refused.true)) refl c.visit_event-answer.ensures.ok

pub returns-else-refused-clause-ok : goal.returns-else-refused-clause-ok
returns-else-refused-clause-ok g c =
    reported c.visit_event-answer.result (FiltersPayloads g.T.Visitor.visits) (λ filtered. g.T.Refusing.refusals filtered.filtered.visitor) _ _ _ _ _ _ c.self.view_is
    (unnoted c.self.inside.has_errors _ _ (rw (c.refused.ensures, c.refused-refused.ensures) at c.if-refused.false)) refl c.visit_event-answer.ensures.ok
