use Rattle.std.proofs.Common.{◌∷◌, [], List, true, false, refl, sym, ap, subst, ◌∙◌}
use Rattle.change_statistics.specs.Names.{name_of}
use Rattle.binlog_later_changes.specs.Later.{other, table}
use Rattle.binlog_later_changes.specs.Looks.{At, at_of, event_at}
use Rattle.binlog_later_changes.specs.Tables.{Grows}
use Rattle.binlog_later_changes.specs.declared.later_change.EventPlace.{EventPlace}
use Rattle.binlog_later_changes.specs.declared.undone_events.RowsPlace.{RowsPlace}
use Rattle.binlog_later_changes.proofs.SeenEvents.{sees_rows}
use Rattle.binlog_later_changes.proofs.later_scan.LaterScan.note_rows.Goals as goal

pub returns-then-meet-clause-ok : goal.returns-then-meet-clause-ok
returns-then-meet-clause-ok c =
    sees_rows c.args.self.now _ c.args.place (name_of c.args.name) true (sym c.if-meet.true ∙ c.meet.ensures.met)
    (ap (λ (l : List RowsPlace). let a : At = record (at_of c.args.self.now) { left = l } in a) c.meet.ensures.left) refl refl
    (c.in_ok-undo.ensures (event_at c.args.self.now.log (at_of c.args.self.now)))

pub returns-clause-ok : goal.returns-clause-ok
returns-clause-ok c =
    sees_rows c.args.self.now _ c.args.place (name_of c.args.name) false (sym c.if-meet.false ∙ c.meet.ensures.met)
    (ap (λ (l : List RowsPlace). let a : At = record (at_of c.args.self.now) { left = l } in a) c.meet.ensures.left) refl refl
    (subst (λ (e : EventPlace). Grows (record { event = e; what = other (table (name_of c.args.name)) } ∷ []) c.args.self.now.tables c.change.new.self) c.event-here.ensures c.in_ok-change.ensures)
