use Rattle.binlog_undo_log.proofs.Looked.{on_ok}
use Rattle.binlog_undo_log.proofs.scan.UndoScan.scan_event.Goals as goal

pub returns-clause-ok : goal.returns-clause-ok
returns-clause-ok c =
    on_ok c.scan_any.result (λ h. record { wanted = c.in_ok-is_wanted.is_wanted; follows = c.in_ok-is_wanted.ensures; scans = h }) c.scan_any.ensures.ok
