use Rattle.binlog_events.specs.EventRefs.{view_of}
use Rattle.binlog_undo_log.proofs.ReadEvents.{body_if}
use Rattle.binlog_undo_log.proofs.rows.push_body.Goals as goal

pub returns : goal.returns
returns c =
    body_if c.push_read_event-answer.result c.args.checks (view_of c.args.map_event.now) c.args.map.now (view_of c.args.event.now) c.args.body.now c.read_uncompressed-read.result
    c.args.writer.now c.push_read_event-answer.new.writer c.read_uncompressed-read.ensures c.push_read_event-answer.ensures
