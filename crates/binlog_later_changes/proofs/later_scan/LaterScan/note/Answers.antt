use Rattle.std.specs.Prelude.{option_copied}
use Rattle.binlog_events.specs.EventRefs.{view_of}
use Rattle.binlog_later_changes.specs.KnownRows.{KnowsRowsIf}
use Rattle.binlog_later_changes.proofs.SeenEvents.{on_ok, said_nothing, said_unknown}
use Rattle.binlog_later_changes.proofs.later_scan.LaterScan.note.Goals as goal

pub returns-in-Nothing-clause-ok : goal.returns-in-Nothing-clause-ok
returns-in-Nothing-clause-ok c =
    rw c.in-Nothing.is (said_nothing (KnowsRowsIf (view_of c.args.event.now) (option_copied c.args.map) (option_copied c.args.rows)) c.args.place c.args.self.now)

pub returns-in-Unknown-clause-ok : goal.returns-in-Unknown-clause-ok
returns-in-Unknown-clause-ok c =
    rw c.in-Unknown.is (on_ok c.note_unknown.result
    (λ sees. said_unknown (KnowsRowsIf (view_of c.args.event.now) (option_copied c.args.map) (option_copied c.args.rows)) c.args.place c.in-Unknown.reason c.args.self.now c.note_unknown.new.self sees)
    c.note_unknown.ensures.ok)
