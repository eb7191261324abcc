use Rattle.std.proofs.Common.{◌++◌, ◌∷◌, [], true, refl, ap, ◌∙◌}
use Rattle.json.specs.Token.{number}
use Rattle.json_line.proofs.OneMore.{text_begun, pushed, pushed_tokens}
use Rattle.json_line.proofs.line.Line.number_text.Goals as goal

pub invariant_of-self-2 : goal.invariant_of-self-2
invariant_of-self-2 c =
    pushed _ _ c.self.invariant (number c.args.text.now) c.requires c.utf8.text _ true refl (text_begun _ _ _ (number c.args.text.now) _ refl c.as_bytes.ensures.value c.in_ok-add.ensures)

pub returns-clause-added : goal.returns-clause-added
returns-clause-added c =
    pushed_tokens _ _ c.self.invariant (number c.args.text.now) c.requires c.utf8.text _ true refl (text_begun _ _ _ (number c.args.text.now) _ refl c.as_bytes.ensures.value c.in_ok-add.ensures)
    ∙ ap (λ l. l ++ number c.args.text.now ∷ []) c.self.view_is
