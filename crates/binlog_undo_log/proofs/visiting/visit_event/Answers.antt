use Rattle.binlog_events.specs.EventRefs.{view_of}
use Rattle.binlog_undo_log.proofs.Visited.{event_visited}
use Rattle.binlog_undo_log.proofs.visiting.visit_event.Goals as goal

pub returns : goal.returns
returns g c =
    event_visited g.V.RowsVisitor.visits (view_of c.args.map_event.now) (view_of c.args.event.now) c.in_ok-map.map c.visit_rows.result c.args.visitor.now
    c.visit_rows.new.self c.in_ok-map.ensures c.visit_rows.ensures
