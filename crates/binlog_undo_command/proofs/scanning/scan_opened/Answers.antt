use Rattle.binlog_undo_command.proofs.scanning.scan_opened.Goals as goal

pub returns-clause-ok : goal.returns-clause-ok
returns-clause-ok g c = record { scans = c.in_ok-scan_open.ensures.ok; skipped = rw c.index.ensures at (c.report.ensures.skipped c.if-report.false) }

pub returns-then-report-clause-refused : goal.returns-then-report-clause-refused
returns-then-report-clause-refused g c = λ damaged. record { scans = c.in_ok-scan_open.ensures.ok; refused = rw c.index.ensures at (c.report.ensures.refused c.if-report.true) }
