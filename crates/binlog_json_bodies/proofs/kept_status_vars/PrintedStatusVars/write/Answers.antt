use Rattle.std.proofs.Common.{◌++◌, List, codes, ap, ◌∙◌}
use Rattle.json.specs.Token.{Token}
use Rattle.json_line.specs.Tokens.{bytes_member_if_any}
use Rattle.binlog_json_bodies.specs.StatusVars.{status_vars_value, behind_variables}
use Rattle.binlog_json_bodies.proofs.kept_status_vars.PrintedStatusVars.write.Goals as goal

pub copied_members-requires : goal.copied_members-requires
copied_members-requires c =
    let bytes = c.args.self.now.bytes.items in
    record {
      name = codes "status_vars";
      behind = status_vars_value bytes ++ bytes_member_if_any (codes "status_vars_rest") (behind_variables bytes);
      is = c.args.self.now.printed;
    }

pub returns-clause-members : goal.returns-clause-members
returns-clause-members c = c.in_ok-copied_members.ensures.added ∙ ap (λ (l : List Token). c.args.line.now ++ l) c.args.self.now.printed

pub returns-clause-client : goal.returns-clause-client
returns-clause-client c = c.args.self.now.client
