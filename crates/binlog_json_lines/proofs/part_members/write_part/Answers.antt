use Rattle.std.proofs.Common.{◌++◌, append_assoc, refl}
use Rattle.json_line.specs.Tokens.{object}
use Rattle.binlog_events.specs.EventRefs.{view_of}
use Rattle.binlog_json_lines.specs.PartLines.{part_head}
use Rattle.binlog_json_lines.proofs.part_members.write_part.Goals as goal

pub returns : goal.returns
returns c =
    let all = c.in_ok-contradiction.ensures in
    record {
      tokens = object (part_head c.args.place.index c.args.place.number (view_of c.args.event.now) ++ all.tokens);
      are = record { members = all.tokens; are = all.are; is = refl };
      is = rw (c.in_ok-end_object.ensures.added, all.is, c.in_ok-write_part_head.ensures, c.in_ok-begin_object.ensures.added) (simp append_assoc);
    }
