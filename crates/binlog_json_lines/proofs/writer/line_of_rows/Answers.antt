use Rattle.std.proofs.Common.{◌≡◌, Option, ap, ◌∙◌}
use Rattle.std.specs.Prelude.{option_copied}
use Rattle.binlog_events.specs.EventRefs.{view_of}
use Rattle.binlog_file.specs.State.{state_of}
use Rattle.binlog_rows.specs.declared.rows_event_data.RowsEventData.{RowsEventData}
use Rattle.binlog_json_lines.specs.Lines.{map_of_event}
use Rattle.binlog_json_lines.specs.Options.{options_of}
use Rattle.binlog_json_lines.specs.ReadRows.{map_of_rows}
use Rattle.binlog_json_lines.proofs.ShownItems.{with_rows}
use Rattle.binlog_json_lines.proofs.writer.line_of_rows.Goals as goal

pub returns : goal.returns
returns c =
    let maps = (state_of c.args.reader.now).table_maps in
    let e = view_of c.args.event.now in
    let map : option_copied c.table_map-table_map.result ≡ map_of_event maps e =
    c.table_map-table_map.ensures ∙ ap (λ (rows : Option RowsEventData). map_of_rows maps rows) c.requires.read in
    record {
      shown = with_rows (options_of c.args.options.now) maps c.args.index e (option_copied c.table_map-table_map.result) c.in_ok-line.line.contradiction c.args.contradictions.now c.note.new.contradictions
          c.in_ok-line.line.text.now c.requires.rows map c.in_ok-line.ensures.line c.in_ok-note.ensures.noted;
      memory = tt;
    }
