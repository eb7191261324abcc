use Rattle.binlog_events.specs.EventRefs.{view_of}
use Rattle.binlog_undo_log.proofs.ReadBodies.{reads_map}
use Rattle.binlog_undo_log.proofs.events.read_table_map.Goals as goal

pub returns-in-Ok : goal.returns-in-Ok
returns-in-Ok c = reads_map (view_of c.args.event.now) c.in-Ok.map c.requires c.in-Ok.ensures.exact
