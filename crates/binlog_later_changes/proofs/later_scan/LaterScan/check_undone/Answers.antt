use Rattle.std.proofs.Common.{refl}
use Rattle.std.specs.Prelude.{option_copied}
use Rattle.binlog_events.specs.EventRefs.{view_of}
use Rattle.change_statistics.specs.Names.{name_of}
use Rattle.binlog_later_changes.specs.KnownRows.{KnowsRowsIf}
use Rattle.binlog_later_changes.proofs.SeenEvents.{undone_checked}
use Rattle.binlog_later_changes.proofs.later_scan.LaterScan.check_undone.Goals as goal

pub returns-clause-ok : goal.returns-clause-ok
returns-clause-ok c =
    undone_checked (KnowsRowsIf (view_of c.args.event.now) (option_copied c.args.map) (option_copied c.args.rows)) (name_of c.args.name) _ c.in_ok-keyed.ensures c.args.self.now _
    c.in_ok-undo.ensures refl refl refl c.in_ok-undo-2.ensures
