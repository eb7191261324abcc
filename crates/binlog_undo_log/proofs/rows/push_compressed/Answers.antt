use Rattle.binlog_events.specs.EventRefs.{view_of}
use Rattle.binlog_undo_log.proofs.ReadEvents.{compressed_if}
use Rattle.binlog_undo_log.proofs.rows.push_compressed.Goals as goal

pub returns-in-Ok : goal.returns-in-Ok
returns-in-Ok c =
    compressed_if c.push_body.result c.args.checks (view_of c.args.map_event.now) c.args.map.now (view_of c.args.event.now) c.args.compressed.now c.in-Ok.body.items
    c.as_slice.result.now c.args.writer.now c.push_body.new.writer c.as_slice.ensures.value c.in-Ok.ensures.body c.push_body.ensures
