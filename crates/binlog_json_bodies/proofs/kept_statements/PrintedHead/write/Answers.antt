use Rattle.std.proofs.Common.{◌++◌, List, codes, ap, ◌∙◌}
use Rattle.json.specs.Token.{Token}
use Rattle.json_line.specs.Tokens.{number_value, member}
use Rattle.binlog_json_bodies.proofs.kept_statements.PrintedHead.write.Goals as goal

pub copied_members-requires : goal.copied_members-requires
copied_members-requires c =
    let head = c.args.self.now in
    record {
      name = codes "thread_id";
      behind = number_value head.thread_id ++ (member (codes "execution_time") (number_value head.execution_time) ++ member (codes "error_code") (number_value head.error_code));
      is = head.printed;
    }

pub returns : goal.returns
returns c = c.in_ok-copied_members.ensures.added ∙ ap (λ (l : List Token). c.args.line.now ++ l) c.args.self.now.printed
