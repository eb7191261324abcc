use Rattle.std.proofs.Common.{◌++◌, append_assoc, codes, refl}
use Rattle.json_line.specs.Tokens.{member, object}
use Rattle.binlog_events.specs.EventRefs.{view_of}
use Rattle.binlog_json_lines.specs.Lines.{head_members}
use Rattle.binlog_json_lines.proofs.lines.write_own_event.Goals as goal

pub returns : goal.returns
returns c =
    let shown = c.in_ok-write_maria_data.ensures in
    record {
      tokens = object (head_members c.args.index (view_of c.args.event.now) c.args.event_type ++ member (codes "data") shown.tokens);
      are = record { content = shown.tokens; read = shown.are; is = refl };
      is = rw (c.in_ok-end_object.ensures.added, shown.is, c.in_ok-key.ensures.added, c.in_ok-write_head.ensures, c.in_ok-begin_object.ensures.added) (simp append_assoc);
    }
