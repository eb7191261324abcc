use Rattle.std.proofs.Common.{refl}
use Rattle.std.specs.Prelude.{option_copied}
use Rattle.binlog_events.specs.EventRefs.{view_of}
use Rattle.change_statistics.specs.Names.{name_of}
use Rattle.binlog_later_changes.specs.KnownRows.{KnowsRowsIf}
use Rattle.binlog_later_changes.specs.Places.{places_of}
use Rattle.binlog_later_changes.proofs.SeenEvents.{on_ok, checked_met, checked_kept}
use Rattle.binlog_later_changes.proofs.later_scan.LaterScan.check_rows.Goals as goal

pub returns-then-meet-clause-ok : goal.returns-then-meet-clause-ok
returns-then-meet-clause-ok c = on_ok c.check_undone.result
    (λ sees. checked_met (KnowsRowsIf (view_of c.args.event.now) (option_copied c.args.map) (option_copied c.args.rows)) c.args.place (name_of c.args.name) c.args.self.now c.check_undone.new.self
    (places_of c.meet.new.self) c.meet.result c.meet.ensures.met c.meet.ensures.left _ refl refl refl refl c.if-meet.true sees) c.check_undone.ensures.ok

pub returns-clause-ok : goal.returns-clause-ok
returns-clause-ok c = on_ok c.check_kept.result
    (λ sees. checked_kept (KnowsRowsIf (view_of c.args.event.now) (option_copied c.args.map) (option_copied c.args.rows)) c.args.place (name_of c.args.name) c.args.self.now c.check_kept.new.self
    (places_of c.meet.new.self) c.meet.result c.meet.ensures.met c.meet.ensures.left _ refl refl refl refl c.if-meet.false sees) c.check_kept.ensures.ok
