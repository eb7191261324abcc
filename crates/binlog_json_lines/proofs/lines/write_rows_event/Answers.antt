use Rattle.std.proofs.Common.{◌++◌, append_assoc, refl}
use Rattle.json_line.specs.Tokens.{object}
use Rattle.binlog_events.specs.EventRefs.{view_of}
use Rattle.binlog_json_lines.specs.ItemLines.{event_head}
use Rattle.binlog_json_lines.proofs.lines.write_rows_event.Goals as goal

pub returns : goal.returns
returns c =
    let all = c.in_ok-contradiction.ensures in
    record {
      tokens = object (event_head c.args.index (view_of c.args.event.now) ++ all.tokens);
      are = record { members = all.tokens; are = all.are; is = refl };
      is = rw (c.in_ok-end_object.ensures.added, all.is, c.in_ok-write_next_event_head.ensures, c.in_ok-begin_object.ensures.added) (simp append_assoc);
    }
