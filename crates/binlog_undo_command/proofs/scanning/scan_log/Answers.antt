use Rattle.binlog_undo_command.proofs.scanning.scan_log.Goals as goal

pub returns-in-Ok-clause-ok : goal.returns-in-Ok-clause-ok
returns-in-Ok-clause-ok g c = record {
  scanned = record { start = c.in_ok-scan.scan; states = c.in_ok-scan.ensures.ok; scans = c.in-Ok.ensures.ok.scans };
  skipped = c.in-Ok.ensures.ok.skipped;
}

pub returns-in-Err-clause-refused : goal.returns-in-Err-clause-refused
returns-in-Err-clause-refused g c = λ damaged. record {
  scan = c.scan_named.new.scan;
  scanned = record { start = c.in_ok-scan.scan; states = c.in_ok-scan.ensures.ok; scans = (c.in-Err.ensures.refused damaged).scans };
  refused = (c.in-Err.ensures.refused damaged).refused;
}

pub returns-in-Err-clause-usage : goal.returns-in-Err-clause-usage
returns-in-Err-clause-usage g c = λ usage. absurd (c.in-Err.ensures.usage usage)
