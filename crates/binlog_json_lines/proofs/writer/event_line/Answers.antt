use Rattle.std.proofs.Common.{sym, ◌∙◌}
use Rattle.binlog_events.specs.EventRefs.{view_of}
use Rattle.binlog_file.specs.State.{state_of}
use Rattle.binlog_json_lines.specs.Options.{options_of}
use Rattle.binlog_json_lines.proofs.ShownItems.{without_rows}
use Rattle.binlog_json_lines.proofs.writer.event_line.Goals as goal

pub line_with_rows-requires : goal.line_with_rows-requires
line_with_rows-requires c = sym c.is_row_event.ensures ∙ c.if-is_row_event.true

pub returns-else-is_row_event : goal.returns-else-is_row_event
returns-else-is_row_event c =
    record {
      shown = without_rows c.line_without_rows.result (λ text. text.now) (options_of c.args.options.now) (state_of c.args.reader.now).table_maps c.args.index (view_of c.args.event.now) c.args.contradictions.now
          (sym c.is_row_event.ensures ∙ c.if-is_row_event.false) c.line_without_rows.ensures.line;
      memory = c.line_without_rows.ensures.memory;
    }
