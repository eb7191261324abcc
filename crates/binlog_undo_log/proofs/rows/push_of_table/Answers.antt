use Rattle.binlog_events.specs.EventRefs.{view_of}
use Rattle.binlog_undo_log.proofs.ReadEvents.{mapped_if}
use Rattle.binlog_undo_log.proofs.rows.push_of_table.Goals as goal

pub returns : goal.returns
returns c =
    mapped_if c.push_read_rows-answer.result c.args.checks (view_of c.args.map_event.now) c.args.map.now (view_of c.args.event.now) c.read_log_data-read.result c.args.writer.now
    c.push_read_rows-answer.new.writer c.read_log_data-read.ensures c.push_read_rows-answer.ensures
