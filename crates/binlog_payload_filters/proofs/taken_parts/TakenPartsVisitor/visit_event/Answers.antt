use Rattle.binlog_payload_filters.proofs.ShownItems.{on_same, refused_same}
use Rattle.binlog_payload_filters.proofs.taken_parts.TakenPartsVisitor.visit_event.Goals as goal

pub returns-clause-ok : goal.returns-clause-ok
returns-clause-ok g c = on_same c.visit_event.result _ c.args.self.now.tables c.visit_event.ensures.ok

pub returns-clause-err : goal.returns-clause-err
returns-clause-err g c = refused_same c.visit_event.result _ c.args.self.now.tables c.visit_event.ensures.err
