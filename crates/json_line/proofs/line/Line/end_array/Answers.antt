use Rattle.std.proofs.Common.{◌++◌, ◌∷◌, [], true, refl, ap, ◌∙◌}
use Rattle.json.specs.Token.{end_array}
use Rattle.json.proofs.Printed.Utf8.{IsUtf8-are_ascii}
use Rattle.json_line.proofs.OneMore.{text_ended, pushed, pushed_tokens}
use Rattle.json_line.proofs.line.Line.end_array.Goals as goal

pub invariant_of-self-2 : goal.invariant_of-self-2
invariant_of-self-2 c =
    pushed _ _ c.self.invariant end_array tt (IsUtf8-are_ascii _ refl) _ true refl (text_ended _ _ _ end_array _ refl refl c.in_ok-add.ensures)

pub returns-clause-added : goal.returns-clause-added
returns-clause-added c =
    pushed_tokens _ _ c.self.invariant end_array tt (IsUtf8-are_ascii _ refl) _ true refl (text_ended _ _ _ end_array _ refl refl c.in_ok-add.ensures)
    ∙ ap (λ l. l ++ end_array ∷ []) c.self.view_is
