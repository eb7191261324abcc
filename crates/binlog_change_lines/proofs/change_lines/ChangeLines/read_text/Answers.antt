use Rattle.std.proofs.Common.{option_copied}
use Rattle.binlog_events.specs.EventRefs.{view_of}
use Rattle.binlog_json_lines.specs.Lines.{IsLineWith}
use Rattle.binlog_json_lines.specs.Options.{options_of}
use Rattle.binlog_change_lines.specs.Heads.{place_of}
use Rattle.binlog_change_lines.proofs.Shown.{whole_text}
use Rattle.binlog_change_lines.proofs.change_lines.ChangeLines.read_text.Goals as goal

pub returns-in-Whole : goal.returns-in-Whole
returns-in-Whole c =
    let map = option_copied c.args.table_map in
    let event = view_of c.args.event.now in
    record {
      text = whole_text c.event_line_with_rows.result (λ line. line.contradiction) (λ line. line.text.now)
          (λ contradiction text. IsLineWith (options_of c.args.options.now) map c.args.index event contradiction text) _ (place_of c.args.place.now) map event _
          (rw (c.deref.ensures.value, c.in-Whole.is) at c.in_ok-shown.ensures.shown) c.event_line_with_rows.ensures.line;
      memory = c.event_line_with_rows.ensures.memory;
    }
