use Rattle.std.proofs.Common.{refl}
use Rattle.binlog_payload_filters.specs.Filtering.{FiltersPayloads}
use Rattle.binlog_inputs.proofs.Reporting.{reported}
use Rattle.binlog_inputs.proofs.reported.ReportedPayloadFilteredVisitor.visit_error.Goals as goal

pub returns-clause-ok : goal.returns-clause-ok
returns-clause-ok g c =
    reported c.visit_error.result (FiltersPayloads g.T.Visitor.visits) (λ filtered. g.T.Refusing.refusals filtered.filtered.visitor) _ _ _ _ _ _ c.self.view_is refl refl c.visit_error.ensures.ok
