use Rattle.std.proofs.Common.{◌∙◌, ℕ, sym, ap}
use Rattle.std.specs.Ordering.{nat_cmp}
use Rattle.std.specs.BTreeMap.{get}
use Rattle.binlog_events.specs.EventRefs.{view_of}
use Rattle.binlog_file.specs.State.{state_of}
use Rattle.binlog_undo_log.proofs.Looked.{empty_if, rows_if}
use Rattle.binlog_undo_log.proofs.scan.UndoScan.look_at_rows.Goals as goal

pub returns-in-Some-clause-ok : goal.returns-in-Some-clause-ok
returns-in-Some-clause-ok c =
    rows_if c.look_at_placed.result c.args.self.now (state_of c.args.reader.now).table_maps (view_of c.args.event.now) c.args.rows.now c.rows_data.result.now c.in-Some.table_map
    c.rows_data.ensures (sym c.if-is_empty.ensures)
    (ap (λ (id : ℕ). get nat_cmp c.args.self.now.index.maps id) (sym c.table_id.ensures.number) ∙ sym c.table_map.ensures ∙ c.in-Some.is)
    c.look_at_placed.ensures.ok

pub returns-then-is_empty-clause-ok : goal.returns-then-is_empty-clause-ok
returns-then-is_empty-clause-ok c =
    empty_if c.look_without_bytes.result c.args.self.now (state_of c.args.reader.now).table_maps (view_of c.args.event.now) c.args.rows.now c.rows_data.result.now
    c.rows_data.ensures (sym c.if-is_empty.ensures) c.look_without_bytes.ensures.ok
