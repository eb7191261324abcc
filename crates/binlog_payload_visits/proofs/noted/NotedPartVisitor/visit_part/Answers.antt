use Rattle.binlog_events.specs.EventRefs.{view_of}
use Rattle.binlog_payload_visits.proofs.NotedItems.{part_on}
use Rattle.binlog_payload_visits.proofs.noted.NotedPartVisitor.visit_part.Goals as goal

pub returns-clause-ok : goal.returns-clause-ok
returns-clause-ok g c =
    part_on c.visit_part.result g.T.PartVisitor.visits_part c.args.self.now _ c.args.index c.args.number (view_of c.args.event.now) c.visit_part.new.self c.visit_part.ensures.ok
