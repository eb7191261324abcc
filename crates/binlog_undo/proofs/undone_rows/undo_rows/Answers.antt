use Rattle.std.proofs.Common.{◌≡◌, true, false, subst, rules}
use Rattle.binlog_wire.specs.Fields.{IsBytes}
use Rattle.binlog_columns.specs.TableColumns.{columns_of}
use Rattle.binlog_undo.proofs.FullRows.{shape_found}
use Rattle.binlog_undo.proofs.UndoneEvents.{event_undone}
use Rattle.binlog_undo.proofs.undone_rows.undo_rows.Goals as goal

pub undo_full-requires-clause-shape : goal.undo_full-requires-clause-shape
undo_full-requires-clause-shape c =
    shape_found (columns_of c.args.columns) _ _ c.args.event.now c.in-Ok.rows c.new-full.result c.columns_before_image-before.ensures.image c.columns_after_image-after.ensures.image
    c.in-Ok.ensures c.new-full.ensures

pub returns : goal.returns
returns c =
    let can : c.can_undo.result ≡ true = search rules in
    let is_whole : c.is_partial.result ≡ false = search rules in
    let bytes : IsBytes c.in-Ok.rows.rest.now = subst IsBytes c.rest_data.ensures c.are_bytes.ensures in
    event_undone c.undoing_of-undoing.result (columns_of c.args.columns) c.args.key.now c.args.event.now _ _ c.in-Ok.rows _ c.can_undo.result c.is_partial.result
    c.columns_before_image-before.ensures.image c.columns_after_image-after.ensures.image c.in-Ok.ensures c.can_undo.ensures can c.is_partial.ensures is_whole
    c.undoing_of-undoing.ensures c.completes.ensures c.in_ok-bytes.ensures bytes
