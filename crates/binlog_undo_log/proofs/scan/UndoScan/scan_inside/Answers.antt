use Rattle.binlog_undo_log.proofs.scan.UndoScan.scan_inside.Goals as goal
