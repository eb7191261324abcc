use Rattle.std.proofs.Common.{◌++◌, ◌∷◌, [], true, refl, ap, ◌∙◌}
use Rattle.json.specs.Token.{null}
use Rattle.json.proofs.Printed.Utf8.{IsUtf8-are_ascii}
use Rattle.json_line.proofs.OneMore.{text_begun, pushed, pushed_tokens}
use Rattle.json_line.proofs.line.Line.null.Goals as goal

pub invariant_of-self-2 : goal.invariant_of-self-2
invariant_of-self-2 c =
    pushed _ _ c.self.invariant null tt (IsUtf8-are_ascii _ refl) _ true refl (text_begun _ _ _ null _ refl refl c.in_ok-add.ensures)

pub returns-clause-added : goal.returns-clause-added
returns-clause-added c =
    pushed_tokens _ _ c.self.invariant null tt (IsUtf8-are_ascii _ refl) _ true refl (text_begun _ _ _ null _ refl refl c.in_ok-add.ensures)
    ∙ ap (λ l. l ++ null ∷ []) c.self.view_is
