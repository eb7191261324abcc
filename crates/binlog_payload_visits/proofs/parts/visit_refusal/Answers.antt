use Rattle.std.proofs.Common.{rules}
use Rattle.binlog_payload_visits.proofs.VisitedParts.{visits_refusal}
use Rattle.binlog_payload_visits.proofs.parts.visit_refusal.Goals as goal

pub returns-clause-visits : goal.returns-clause-visits
returns-clause-visits g c =
    visits_refusal g.T.PartVisitor.visits_part g.T.PartVisitor.refuses_part c.args.error.now c.args.index c.args.visitor.now c.visit_part_error.result c.visit_part_error.new.self _ (search rules) c.visit_part_error.ensures.ok c.visit_part_error.ensures.err
