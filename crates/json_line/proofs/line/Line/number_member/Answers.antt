use Rattle.std.proofs.Common.{◌∷◌, ◌++◌, [], ap, ◌∙◌}
use Rattle.std.specs.Fmt.{decimal}
use Rattle.json.specs.Token.{key, number}
use Rattle.json_line.specs.Buffers.{comma}
use Rattle.json_line.proofs.Members.{number_added, number_tokens}
use Rattle.json_line.proofs.line.Line.number_member.Goals as goal

pub invariant_of-self-2 : goal.invariant_of-self-2
invariant_of-self-2 c =
    number_added _ _ c.self.invariant c.args.name.now c.requires c.utf8.name c.args.number c.ranges.number.fits _
    (c.in_ok-add_named_number.ensures ∙ ap (λ name. c.self.inside.text.text ++ (comma c.self.inside.after_value ++ (34 ∷ (name ++ 34 ∷ 58 ∷ [])) ++ decimal c.args.number)) c.as_bytes.ensures.value)

pub returns-clause-added : goal.returns-clause-added
returns-clause-added c =
    number_tokens _ _ c.self.invariant c.args.name.now c.requires c.utf8.name c.args.number c.ranges.number.fits _
    (c.in_ok-add_named_number.ensures ∙ ap (λ name. c.self.inside.text.text ++ (comma c.self.inside.after_value ++ (34 ∷ (name ++ 34 ∷ 58 ∷ [])) ++ decimal c.args.number)) c.as_bytes.ensures.value)
    ∙ ap (λ l. l ++ key c.args.name.now ∷ number (decimal c.args.number) ∷ []) c.self.view_is
