use Rattle.std.proofs.Common.{Option, sym, ap, ◌∙◌}
use Rattle.std.specs.Prelude.{option_map}
use Rattle.binlog_consts.specs.EventTypes.{event_type_of}
use Rattle.binlog_event_format.specs.Headers.{header_of}
use Rattle.binlog_file.specs.EventRefs.{view_of}
use Rattle.binlog_file.specs.Parts.{data_of}
use Rattle.binlog_rows.specs.RowsData.{event_in}
use Rattle.binlog_rows.specs.declared.rows_event_data.RowsEventData.{RowsEventData}
use Rattle.binlog_filters.proofs.RowsRead.{of_other_type}
use Rattle.binlog_filters.proofs.row_events.table_id.Goals as goal

pub returns-then-not-is_row_event : goal.returns-then-not-is_row_event
returns-then-not-is_row_event c =
    let e = view_of c.args.event.now in
    sym
    (ap (λ (found : Option RowsEventData). option_map (λ body. (event_in body).head.table_id) found)
    (of_other_type e.fde (data_of e.fde.footer e.frame) (event_type_of (header_of e.frame).event_type) (sym c.is_row_event.ensures ∙ c.if-not-is_row_event.true)))
