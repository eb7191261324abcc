use Rattle.binlog_events.specs.EventRefs.{view_of}
use Rattle.binlog_undo_log.proofs.ReadEvents.{events_if}
use Rattle.binlog_undo_log.proofs.rows.push_events.Goals as goal

pub returns : goal.returns
returns c =
    events_if c.push_of_table.result c.args.checks (view_of c.args.map_event.now) (view_of c.args.event.now) c.in_ok-map.map c.args.writer.now
    c.push_of_table.new.writer c.in_ok-map.ensures c.push_of_table.ensures
