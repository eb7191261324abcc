use Rattle.std.specs.Prelude.{option_copied}
use Rattle.binlog_events.specs.EventRefs.{view_of}
use Rattle.change_statistics.specs.Names.{name_of}
use Rattle.binlog_later_changes.specs.KnownRows.{KnowsRowsIf}
use Rattle.binlog_later_changes.proofs.SeenEvents.{on_ok, said_checked, said_rows}
use Rattle.binlog_later_changes.proofs.later_scan.LaterScan.note_rows_by_rules.Goals as goal

pub returns-then-self-clause-ok : goal.returns-then-self-clause-ok
returns-then-self-clause-ok c = on_ok c.check_rows.result
    (λ sees. said_checked (KnowsRowsIf (view_of c.args.event.now) (option_copied c.args.map) (option_copied c.args.rows)) c.args.place (name_of c.args.name) c.args.self.now c.check_rows.new.self c.if-self.true sees)
    c.check_rows.ensures.ok

pub returns-clause-ok : goal.returns-clause-ok
returns-clause-ok c = on_ok c.note_rows.result
    (λ sees. said_rows (KnowsRowsIf (view_of c.args.event.now) (option_copied c.args.map) (option_copied c.args.rows)) c.args.place (name_of c.args.name) c.args.self.now c.note_rows.new.self c.if-self.false sees)
    c.note_rows.ensures.ok
