use Rattle.std.proofs.Common.{◌∙◌, ℕ, sym, ap}
use Rattle.std.specs.Ordering.{nat_cmp}
use Rattle.std.specs.BTreeMap.{get}
use Rattle.binlog_events.specs.EventRefs.{view_of}
use Rattle.binlog_file.specs.State.{state_of}
use Rattle.binlog_undo_log.proofs.Looked.{left_if}
use Rattle.binlog_undo_log.proofs.scan.UndoScan.look_without_bytes.Goals as goal

pub returns-in_ok-look-in-Some-clause-ok : goal.returns-in_ok-look-in-Some-clause-ok
returns-in_ok-look-in-Some-clause-ok c =
    left_if c.in_ok-look-in-Some.look c.without_bytes.result c.args.self.now (state_of c.args.reader.now).table_maps (view_of c.args.event.now) c.args.rows.now c.in-Some.table_map
    (ap (λ (id : ℕ). get nat_cmp c.args.self.now.index.maps id) (sym c.table_id.ensures.number) ∙ sym c.table_map.ensures ∙ c.in-Some.is)
    c.in_ok-look-in-Some.ensures.ok c.without_bytes.ensures
