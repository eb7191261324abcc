use Rattle.std.proofs.Common.{◌++◌, ◌∷◌, [], true, refl, ap, ◌∙◌}
use Rattle.json.specs.Token.{string}
use Rattle.json.proofs.Printed.Utf8.{IsUtf8-quoted}
use Rattle.json_line.proofs.PlainTexts.{string_text}
use Rattle.json_line.proofs.OneMore.{text_begun, pushed, pushed_tokens}
use Rattle.json_line.proofs.line.Line.string_as_it_is.Goals as goal

pub invariant_of-self-2 : goal.invariant_of-self-2
invariant_of-self-2 c =
    pushed _ _ c.self.invariant (string c.args.text.now) tt (IsUtf8-quoted _ c.requires.1) _ true refl (text_begun _ _ _ (string c.args.text.now) _ refl (string_text _ c.requires.0) c.in_ok-add_quoted.ensures)

pub returns-clause-added : goal.returns-clause-added
returns-clause-added c =
    pushed_tokens _ _ c.self.invariant (string c.args.text.now) tt (IsUtf8-quoted _ c.requires.1) _ true refl (text_begun _ _ _ (string c.args.text.now) _ refl (string_text _ c.requires.0) c.in_ok-add_quoted.ensures)
    ∙ ap (λ l. l ++ string c.args.text.now ∷ []) c.self.view_is
