use Rattle.std.proofs.Common.{◌++◌, List, codes, ap, ◌∙◌}
use Rattle.json.specs.Token.{Token}
use Rattle.json_line.specs.Tokens.{number_value, member}
use Rattle.binlog_consts.specs.EventTypes.{event_type_of}
use Rattle.binlog_json_bodies.specs.Data.{name_value}
use Rattle.binlog_json_lines.specs.ItemLines.{type_members, source_members, origin_members}
use Rattle.binlog_json_lines.proofs.kept_heads.PrintedHead.write.Goals as goal

pub copied_members-requires : goal.copied_members-requires
unfolding type_members origin_members
copied_members-requires c =
    let head = c.args.self.now in
    record {
      name = codes "type";
      behind = number_value head.event_type ++ (member (codes "name") (name_value (event_type_of head.event_type)) ++ source_members head.timestamp head.server_id);
      is = head.printed;
    }

pub returns : goal.returns
returns c = c.in_ok-copied_members.ensures.added ∙ ap (λ (l : List Token). c.args.line.now ++ l) c.args.self.now.printed
