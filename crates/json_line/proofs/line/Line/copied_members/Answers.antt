use Rattle.std.proofs.Common.{◌++◌, List, ap, ◌∙◌}
use Rattle.json.specs.Token.{Token}
use Rattle.json_line.proofs.CopiedMembers.{members_added, members_tokens}
use Rattle.json_line.proofs.line.Line.copied_members.Goals as goal

pub invariant_of-self-2 : goal.invariant_of-self-2
invariant_of-self-2 c = members_added _ _ c.self.invariant _ _ c.printed.invariant _ c.printed.view_is c.requires _ c.in_ok-add_written.ensures

pub returns-clause-added : goal.returns-clause-added
returns-clause-added c =
    members_tokens _ _ c.self.invariant _ _ c.printed.invariant _ c.printed.view_is c.requires _ c.in_ok-add_written.ensures
    ∙ ap (λ (l : List Token). l ++ c.args.printed.now) c.self.view_is
