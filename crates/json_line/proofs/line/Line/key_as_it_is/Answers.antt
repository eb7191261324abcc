use Rattle.std.proofs.Common.{◌++◌, ◌∷◌, [], false, refl, ap, ◌∙◌}
use Rattle.json.specs.Token.{key}
use Rattle.json.proofs.Printed.Utf8.{IsUtf8-key}
use Rattle.json_line.proofs.PlainTexts.{key_text}
use Rattle.json_line.proofs.OneMore.{text_begun, pushed, pushed_tokens}
use Rattle.json_line.proofs.line.Line.key_as_it_is.Goals as goal

pub invariant_of-self-2 : goal.invariant_of-self-2
invariant_of-self-2 c =
    pushed _ _ c.self.invariant (key c.args.name.now) tt (IsUtf8-key _ c.requires.1) _ false refl (text_begun _ _ _ (key c.args.name.now) _ refl (key_text _ c.requires.0) c.in_ok-add_name.ensures)

pub returns-clause-added : goal.returns-clause-added
returns-clause-added c =
    pushed_tokens _ _ c.self.invariant (key c.args.name.now) tt (IsUtf8-key _ c.requires.1) _ false refl (text_begun _ _ _ (key c.args.name.now) _ refl (key_text _ c.requires.0) c.in_ok-add_name.ensures)
    ∙ ap (λ l. l ++ key c.args.name.now ∷ []) c.self.view_is
