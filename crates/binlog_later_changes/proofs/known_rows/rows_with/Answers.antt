use Rattle.std.proofs.Common.{subst, sym, ◌∙◌}
use Rattle.binlog_columns.specs.TableColumns.{columns_of}
use Rattle.binlog_wire.specs.Fields.{IsBytes}
use Rattle.change_statistics.specs.Names.{name_of}
use Rattle.binlog_later_changes.specs.KeyedRows.{shape_if, IsUnread}
use Rattle.binlog_later_changes.specs.declared.known_rows.RowFault.{RowFault}
use Rattle.binlog_later_changes.proofs.KnownRows.{not_complete, other_count, rows_shape, rows_known, rows_refused}
use Rattle.binlog_later_changes.proofs.known_rows.rows_with.Goals as goal

pub returns-then-not-is_complete : goal.returns-then-not-is_complete
returns-then-not-is_complete c = not_complete (columns_of c.args.columns) c.args.event.now (name_of c.args.name.now) (sym c.is_complete.ensures ∙ c.if-not-is_complete.true)

pub returns-in-Err : goal.returns-in-Err
returns-in-Err c = other_count (columns_of c.args.columns) c.args.event.now (name_of c.args.name.now) _ c.in-Err.ensures

pub keyed_rows-requires-clause-shape : goal.keyed_rows-requires-clause-shape
keyed_rows-requires-clause-shape c =
    rows_shape (columns_of c.args.columns) c.args.event.now c.columns_before_image-before.result c.columns_after_image-after.result
    c.columns_before_image-before.ensures.image c.columns_after_image-after.ensures.image c.in-Ok.rows (sym c.is_complete.ensures ∙ c.if-not-is_complete.false) c.in-Ok.ensures

pub returns-in-Ok-keyed_rows : goal.returns-in-Ok-keyed_rows
returns-in-Ok-keyed_rows c =
    rows_known (columns_of c.args.columns) c.args.event.now c.columns_before_image-before.result c.columns_after_image-after.result
    c.columns_before_image-before.ensures.image c.columns_after_image-after.ensures.image (name_of c.args.name.now) c.in-Ok.rows c.in-Ok-keyed_rows.rows.items
    (sym c.is_complete.ensures ∙ c.if-not-is_complete.false) c.in-Ok.ensures (c.in-Ok-keyed_rows.ensures (subst IsBytes c.rest_data.ensures c.are_bytes.ensures))

pub returns-in-Err-Unreadable : goal.returns-in-Err-Unreadable
returns-in-Err-Unreadable c =
    rows_refused (columns_of c.args.columns) c.args.event.now c.columns_before_image-before.result c.columns_after_image-after.result
    c.columns_before_image-before.ensures.image c.columns_after_image-after.ensures.image (name_of c.args.name.now) c.in-Ok.rows c.in-Ok.ensures
    (subst (λ (fault : RowFault). IsUnread (shape_if (columns_of c.args.columns) c.columns_before_image-before.result, shape_if (columns_of c.args.columns) c.columns_after_image-after.result)
    c.in-Ok.rows.row c.in-Ok.rows.rest.now fault) c.in-Err-Unreadable.field-0-is (c.in-Err-Unreadable.ensures (subst IsBytes c.rest_data.ensures c.are_bytes.ensures)))
