use Rattle.std.proofs.Common.{refl}
use Rattle.std.specs.Prelude.{option_copied}
use Rattle.binlog_events.specs.EventRefs.{view_of}
use Rattle.change_statistics.specs.Names.{name_of}
use Rattle.binlog_later_changes.specs.KnownRows.{KnowsRowsIf}
use Rattle.binlog_later_changes.proofs.SeenEvents.{on_ok, kept_unknown, kept_apart, kept_near}
use Rattle.binlog_later_changes.proofs.later_scan.LaterScan.check_kept.Goals as goal

pub returns-then-not-knows-clause-ok : goal.returns-then-not-knows-clause-ok
returns-then-not-knows-clause-ok c = on_ok c.note_kept.result
    (λ sees. kept_unknown (KnowsRowsIf (view_of c.args.event.now) (option_copied c.args.map) (option_copied c.args.rows)) (name_of c.args.name) c.knows.result c.args.self.now c.note_kept.new.self
    c.knows.ensures c.if-not-knows.true sees) c.note_kept.ensures.ok

pub returns-then-is_apart-clause-ok : goal.returns-then-is_apart-clause-ok
returns-then-is_apart-clause-ok c =
    kept_apart (KnowsRowsIf (view_of c.args.event.now) (option_copied c.args.map) (option_copied c.args.rows)) (name_of c.args.name) _ c.in_ok-keyed.ensures c.knows.result c.is_apart.result c.args.self.now
    c.knows.ensures c.if-not-knows.false c.is_apart.ensures c.if-is_apart.true

pub returns-clause-ok : goal.returns-clause-ok
returns-clause-ok c = on_ok c.note_kept-2.result
    (λ sees. kept_near (KnowsRowsIf (view_of c.args.event.now) (option_copied c.args.map) (option_copied c.args.rows)) (name_of c.args.name) _ c.in_ok-keyed.ensures c.knows.result c.is_apart.result c.args.self.now
    c.note_kept-2.new.self c.knows.ensures c.if-not-knows.false c.is_apart.ensures c.if-is_apart.false sees) c.note_kept-2.ensures.ok
