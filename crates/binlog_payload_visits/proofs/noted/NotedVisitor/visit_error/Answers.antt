use Rattle.std.proofs.Common.{Err}
use Rattle.binlog_payload_visits.proofs.NotedItems.{noted_on, noted_refused}
use Rattle.binlog_payload_visits.proofs.noted.NotedVisitor.visit_error.Goals as goal

pub returns-clause-ok : goal.returns-clause-ok
returns-clause-ok g c = noted_on c.visit_error.result g.T.Visitor.visits c.args.self.now _ c.args.index (Err c.args.error.now) c.visit_error.new.self c.visit_error.ensures.ok

pub returns-clause-err : goal.returns-clause-err
returns-clause-err g c = noted_refused c.visit_error.result g.T.Visitor.refuses c.args.self.now _ c.args.index (Err c.args.error.now) c.visit_error.new.self c.visit_error.ensures.err
