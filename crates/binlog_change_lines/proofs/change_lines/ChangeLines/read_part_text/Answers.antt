use Rattle.std.proofs.Common.{option_copied}
use Rattle.binlog_events.specs.EventRefs.{view_of}
use Rattle.binlog_json_lines.specs.Options.{options_of}
use Rattle.binlog_json_lines.specs.PartLines.{IsPartEventLine}
use Rattle.binlog_change_lines.specs.Heads.{place_of}
use Rattle.binlog_change_lines.proofs.Shown.{whole_text}
use Rattle.binlog_change_lines.proofs.change_lines.ChangeLines.read_part_text.Goals as goal

pub returns-in-Whole : goal.returns-in-Whole
returns-in-Whole c =
    let map = option_copied c.args.table_map in
    let event = view_of c.args.event.now in
    record {
      text = whole_text c.part_line.result (λ line. line.contradiction) (λ line. line.text.now)
          (λ contradiction text. IsPartEventLine (options_of c.args.options.now) map c.args.part.index c.args.part.number event contradiction text) _ (place_of c.args.place.now) map event _
          (rw (c.deref.ensures.value, c.in-Whole.is) at c.in_ok-shown.ensures.shown) c.part_line.ensures.line;
      memory = c.part_line.ensures.memory;
    }
