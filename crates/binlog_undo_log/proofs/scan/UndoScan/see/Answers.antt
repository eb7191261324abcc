use Rattle.binlog_events.specs.EventRefs.{view_of}
use Rattle.binlog_file.specs.State.{state_of}
use Rattle.binlog_undo_log.proofs.ReadEvents.{if_ok}
use Rattle.binlog_undo_log.specs.Scanning.{SeesRead, Sees}
use Rattle.binlog_undo_log.proofs.scan.UndoScan.see.Goals as goal

pub returns-clause-ok : goal.returns-clause-ok
returns-clause-ok c =
    if_ok (SeesRead c.args.self.now (state_of c.args.reader.now).table_maps c.args.index (view_of c.args.event.now) c.read_log_data-read.result)
    (Sees c.args.self.now (state_of c.args.reader.now).table_maps c.args.index (view_of c.args.event.now)) c.see_read-answer.result
    (λ seen h. (c.read_log_data-read.result, c.read_log_data-read.ensures, h)) c.see_read-answer.ensures.ok
