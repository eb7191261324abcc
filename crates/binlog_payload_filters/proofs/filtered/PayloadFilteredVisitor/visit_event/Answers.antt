use Rattle.std.proofs.Common.{◌≡◌, ◌∙◌, sym, false}
use Rattle.binlog_events.specs.EventRefs.{view_of}
use Rattle.binlog_payload_filters.specs.Payloads.{is_payload}
use Rattle.binlog_payload_filters.proofs.ShownEvents.{event_filtered}
use Rattle.binlog_payload_filters.proofs.filtered.PayloadFilteredVisitor.visit_event.Goals as goal

pub returns-clause-ok : goal.returns-clause-ok
returns-clause-ok g c =
    let other : is_payload (view_of c.args.event.now) ≡ false = sym c.is_payload.ensures ∙ c.if-is_payload.false in
    event_filtered c.visit_event.result g.T.Visitor.visits c.args.self.now _ c.args.index (view_of c.args.event.now) c.visit_event.new.self other c.visit_event.ensures.ok
