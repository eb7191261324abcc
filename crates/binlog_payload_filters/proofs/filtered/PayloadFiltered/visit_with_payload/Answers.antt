use Rattle.std.proofs.Common.{◌∙◌, sym}
use Rattle.binlog_events.specs.EventRefs.{view_of}
use Rattle.binlog_payload_filters.proofs.ShownEvents.{apart_filtered, untabled_filtered}
use Rattle.binlog_payload_filters.proofs.filtered.PayloadFiltered.visit_with_payload.Goals as goal

pub returns-in-None-clause-ok : goal.returns-in-None-clause-ok
returns-in-None-clause-ok g c =
    untabled_filtered c.visit_event.result g.T.Visitor.visits c.args.self.now c.take_tables.new.self _ c.args.index (view_of c.args.event.now) c.visit_event.new.self
    (sym c.take_tables.ensures.tables ∙ c.in-None.is) c.take_tables.ensures.same c.visit_event.ensures.ok

pub returns-in-Some-clause-ok : goal.returns-in-Some-clause-ok
returns-in-Some-clause-ok g c =
    apart_filtered c.visit_payload-answer.result g.T.Visitor.visits c.in-Some.tables c.args.self.now c.take_tables.new.self _ c.args.index (view_of c.args.event.now) c.visit_payload-answer.new.self c.set_tables.new.self
    (sym c.take_tables.ensures.tables ∙ c.in-Some.is) c.requires c.take_tables.ensures.same c.set_tables.ensures c.visit_payload-answer.ensures.ok
