use Rattle.std.proofs.Common.{◌∙◌, ℕ, Bool, true, false, Ok, refl, sym, subst, ap}
use Rattle.binlog_events.specs.EventRefs.{view_of}
use Rattle.binlog_file.specs.State.{state_of}
use Rattle.binlog_undo_log.proofs.Looked.{mapped_if}
use Rattle.binlog_undo_log.specs.Looking.{AsksFor}
use Rattle.binlog_undo_log.specs.declared.scan.seeing.RowsLook.TheVariants.{Left}
use Rattle.binlog_undo_log.proofs.scan.UndoScan.look_at_placed.Goals as goal

pub returns-then-is_asked-clause-ok : goal.returns-then-is_asked-clause-ok
returns-then-is_asked-clause-ok c =
    mapped_if c.look_at_chosen.result c.args.self.now (state_of c.args.reader.now).table_maps (view_of c.args.event.now) c.args.rows.now c.in-Some.map.now c.args.table_map true
    (ap (λ (id : ℕ). (state_of c.args.reader.now).table_maps id) (sym c.table_id.ensures.number) ∙ c.in-Some.ensures)
    (subst (λ (b : Bool). AsksFor c.args.self.now.choice (state_of c.args.reader.now).table_maps (view_of c.args.event.now) b) c.if-is_asked.true c.in_ok-is_asked.ensures.ok)
    c.look_at_chosen.ensures.ok

pub returns-else-is_asked-clause-ok : goal.returns-else-is_asked-clause-ok
returns-else-is_asked-clause-ok c =
    mapped_if (Ok Left) c.args.self.now (state_of c.args.reader.now).table_maps (view_of c.args.event.now) c.args.rows.now c.in-Some.map.now c.args.table_map false
    (ap (λ (id : ℕ). (state_of c.args.reader.now).table_maps id) (sym c.table_id.ensures.number) ∙ c.in-Some.ensures)
    (subst (λ (b : Bool). AsksFor c.args.self.now.choice (state_of c.args.reader.now).table_maps (view_of c.args.event.now) b) c.if-is_asked.false c.in_ok-is_asked.ensures.ok)
    refl
