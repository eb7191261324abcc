use Rattle.binlog_undo_log.proofs.Looked.{on_ok}
use Rattle.binlog_undo_log.proofs.scan.UndoScan.scan_whole.Goals as goal

pub returns-clause-ok : goal.returns-clause-ok
returns-clause-ok c =
    on_ok c.note_if.result (λ h. (c.in_ok-seen.seen, record { whole = c.requires; sees = c.in_ok-seen.ensures.ok; notes = h })) c.note_if.ensures.ok
