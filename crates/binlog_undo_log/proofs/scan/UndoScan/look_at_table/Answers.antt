use Rattle.binlog_columns.specs.TableColumns.{columns_of}
use Rattle.binlog_events.specs.EventRefs.{view_of}
use Rattle.binlog_undo_log.proofs.Looked.{table_if}
use Rattle.binlog_undo_log.proofs.scan.UndoScan.look_at_table.Goals as goal

pub returns-else-is_unknown_temporal-clause-ok : goal.returns-else-is_unknown_temporal-clause-ok
returns-else-is_unknown_temporal-clause-ok c =
    table_if c.look_at_columns.result c.args.self.now (view_of c.args.event.now) c.args.rows.now c.args.map.now c.args.table_map c.columns_type_raw-types.result.now
    c.columns_metadata_raw.result.now (columns_of c.in-Ok.columns) c.is_unknown_temporal.result c.columns_type_raw-types.ensures c.columns_metadata_raw.ensures
    c.in-Ok.ensures.0 c.in-Ok.ensures.1 c.is_unknown_temporal.ensures c.if-is_unknown_temporal.false c.look_at_columns.ensures.ok
