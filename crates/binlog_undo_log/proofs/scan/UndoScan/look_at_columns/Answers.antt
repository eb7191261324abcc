use Rattle.std.proofs.Common.{subst}
use Rattle.binlog_columns.specs.TableColumns.{columns_of}
use Rattle.binlog_event_format.specs.DescriptionRefs.{description_of}
use Rattle.binlog_event_format.specs.declared.format_description.FormatDescriptionEvent.{FormatDescriptionEvent}
use Rattle.binlog_events.specs.EventRefs.{view_of}
use Rattle.binlog_undo_index.specs.declared.places.ChangePlace.{ChangePlace}
use Rattle.binlog_undo_log.proofs.ReadEvents.{if_ok}
use Rattle.binlog_undo_log.specs.Looking.{LooksAs, LooksAtColumns}
use Rattle.binlog_undo_log.proofs.scan.UndoScan.look_at_columns.Goals as goal

pub returns-clause-ok : goal.returns-clause-ok
returns-clause-ok c =
    let place : ChangePlace = record { table_map = c.args.table_map; rows = c.args.self.now.place } in
    if_ok (LooksAs (description_of c.fde.result) place c.check_by_key-checked.result)
    (LooksAtColumns c.args.self.now (view_of c.args.event.now) c.args.rows.now c.args.map.now (columns_of c.args.columns) c.args.table_map) c.look_of.result
    (λ look h. (
      c.is_maria_event-is_maria_log.result,
      c.is_maria_event-is_maria_log.ensures,
      c.check_by_key-checked.result,
      c.check_by_key-checked.ensures,
      subst (λ (d : FormatDescriptionEvent). LooksAs d place c.check_by_key-checked.result look) c.fde.ensures h,
    )) c.look_of.ensures.ok
