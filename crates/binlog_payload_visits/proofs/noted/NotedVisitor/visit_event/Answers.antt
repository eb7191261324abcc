use Rattle.std.proofs.Common.{Ok}
use Rattle.binlog_events.specs.EventRefs.{view_of}
use Rattle.binlog_payload_visits.proofs.NotedItems.{noted_on, noted_refused}
use Rattle.binlog_payload_visits.proofs.noted.NotedVisitor.visit_event.Goals as goal

pub returns-clause-ok : goal.returns-clause-ok
returns-clause-ok g c = noted_on c.visit_event.result g.T.Visitor.visits c.args.self.now _ c.args.index (Ok (view_of c.args.event.now)) c.visit_event.new.self c.visit_event.ensures.ok

pub returns-clause-err : goal.returns-clause-err
returns-clause-err g c = noted_refused c.visit_event.result g.T.Visitor.refuses c.args.self.now _ c.args.index (Ok (view_of c.args.event.now)) c.visit_event.new.self c.visit_event.ensures.err
