use Rattle.std.proofs.Common.{◌++◌, ◌∷◌, [], true, refl, ap, ◌∙◌}
use Rattle.json.specs.Token.{boolean}
use Rattle.json.proofs.Printed.Utf8.{IsUtf8-boolean}
use Rattle.json_line.proofs.OneMore.{text_begun, pushed, pushed_tokens}
use Rattle.json_line.proofs.line.Line.boolean.Goals as goal

pub invariant_of-self-2 : goal.invariant_of-self-2
invariant_of-self-2 c =
    pushed _ _ c.self.invariant (boolean c.args.value) tt (IsUtf8-boolean c.args.value) _ true refl (text_begun _ _ _ (boolean c.args.value) _ refl c.boolean_text.ensures c.in_ok-add.ensures)

pub returns-clause-added : goal.returns-clause-added
returns-clause-added c =
    pushed_tokens _ _ c.self.invariant (boolean c.args.value) tt (IsUtf8-boolean c.args.value) _ true refl (text_begun _ _ _ (boolean c.args.value) _ refl c.boolean_text.ensures c.in_ok-add.ensures)
    ∙ ap (λ l. l ++ boolean c.args.value ∷ []) c.self.view_is
