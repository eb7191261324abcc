use Rattle.std.proofs.Common.{refl}
use Rattle.binlog_columns.specs.TableColumns.{columns_of}
use Rattle.binlog_events.specs.EventRefs.{view_of}
use Rattle.change_statistics.specs.Names.{name_of}
use Rattle.binlog_later_changes.proofs.KnownRows.{if_ok, mapped_old, mapped_refused, mapped_known}
use Rattle.binlog_later_changes.proofs.known_rows.mapped_rows.Goals as goal

pub returns-then-has_old_temporal : goal.returns-then-has_old_temporal
returns-then-has_old_temporal c =
    mapped_old (view_of c.args.event.now) c.args.map.now c.args.rows.now (name_of c.args.name.now) c.columns_type_raw-types.result.now c.args.map.now.columns.metadata c.has_old_temporal.result
    c.columns_type_raw-types.ensures refl c.has_old_temporal.ensures c.if-has_old_temporal.true

pub returns-in-Ok : goal.returns-in-Ok
returns-in-Ok c = if_ok c.rows_with.result _ _
    (λ given known. mapped_known (view_of c.args.event.now) c.args.map.now c.args.rows.now (name_of c.args.name.now) c.columns_type_raw-types.result.now c.columns_metadata_raw.result.now c.has_old_temporal.result
    c.columns_type_raw-types.ensures c.columns_metadata_raw.ensures c.has_old_temporal.ensures c.if-has_old_temporal.false (columns_of c.in-Ok.columns) _ c.in-Ok.ensures.0 c.in-Ok.ensures.1 known)
    c.rows_with.ensures

pub returns-in-Err : goal.returns-in-Err
returns-in-Err c =
    mapped_refused (view_of c.args.event.now) c.args.map.now c.args.rows.now (name_of c.args.name.now) c.columns_type_raw-types.result.now c.columns_metadata_raw.result.now c.has_old_temporal.result
    c.columns_type_raw-types.ensures c.columns_metadata_raw.ensures c.has_old_temporal.ensures c.if-has_old_temporal.false _ c.in-Err.ensures
