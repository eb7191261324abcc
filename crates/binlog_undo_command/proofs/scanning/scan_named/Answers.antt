use Rattle.binlog_undo_command.proofs.Scans.{skipped_known, refused_known}
use Rattle.binlog_undo_command.proofs.scanning.scan_named.Goals as goal

pub returns-in-Ok-clause-ok : goal.returns-in-Ok-clause-ok
returns-in-Ok-clause-ok g c =
    skipped_known c.scan_opened.result (g.L.Logs.bytes c.args.logs.now c.args.name.now) (g.L.Opened.Read.remaining c.in-Ok.input) c.args.scan.now c.scan_opened.new.scan c.in-Ok.ensures
    c.scan_opened.ensures.ok

pub returns-in-Ok-clause-refused : goal.returns-in-Ok-clause-refused
returns-in-Ok-clause-refused g c =
    refused_known c.scan_opened.result (g.L.Logs.bytes c.args.logs.now c.args.name.now) (g.L.Opened.Read.remaining c.in-Ok.input) c.args.scan.now c.scan_opened.new.scan c.in-Ok.ensures
    c.scan_opened.ensures.refused
