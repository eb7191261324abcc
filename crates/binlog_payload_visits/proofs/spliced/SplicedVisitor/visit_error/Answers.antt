use Rattle.std.proofs.Common.{Err}
use Rattle.binlog_payload_visits.proofs.VisitedParts.{spliced_error, own_refused}
use Rattle.binlog_payload_visits.proofs.spliced.SplicedVisitor.visit_error.Goals as goal

pub returns-clause-ok : goal.returns-clause-ok
returns-clause-ok g c =
    spliced_error g.T.Visitor.visits g.T.PartVisitor.visits_part g.T.Visitor.refuses g.T.PartVisitor.refuses_part c.visit_error.result c.args.self.now.limit c.args.self.now.visitor _ c.args.index c.args.error.now c.visit_error.new.self c.visit_error.ensures.ok

pub returns-clause-err : goal.returns-clause-err
returns-clause-err g c =
    own_refused g.T.Visitor.visits g.T.PartVisitor.visits_part g.T.Visitor.refuses g.T.PartVisitor.refuses_part c.visit_error.result c.args.self.now.limit c.args.self.now.visitor _ c.args.index (Err c.args.error.now) c.visit_error.new.self c.visit_error.ensures.err
