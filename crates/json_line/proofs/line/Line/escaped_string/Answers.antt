use Rattle.std.proofs.Common.{◌≡◌, ◌++◌, ◌∷◌, [], true, refl, ap, ◌∙◌}
use Rattle.json.specs.Token.{string}
use Rattle.json.specs.Print.{print}
use Rattle.json.proofs.Printed.Utf8.{IsUtf8-quoted}
use Rattle.json_line.proofs.OneMore.{alone, text_begun, pushed, pushed_tokens}
use Rattle.json_line.proofs.line.Line.escaped_string.Goals as goal

pub invariant_of-self-2 : goal.invariant_of-self-2
invariant_of-self-2 c =
    let one : c.string.new.self.tokens ≡ string c.args.text.now ∷ [] = c.in_ok-string.ensures.ok ∙ ap (λ before. before ++ string c.args.text.now ∷ []) c.token_writer-writer.ensures.tokens in
    let printed : c.deref.result.now ≡ print c.string.new.self.tokens = c.deref.ensures.value ∙ c.into_inner.ensures.items ∙ ap (λ before. before ++ print c.string.new.self.tokens) (c.string.ensures.room.0 ∙ c.token_writer-writer.ensures.before) in
    pushed _ _ c.self.invariant (string c.args.text.now) tt (IsUtf8-quoted _ c.utf8.text) _ true refl (text_begun _ _ _ (string c.args.text.now) _ refl (printed ∙ ap print one ∙ alone (string c.args.text.now)) c.in_ok-add.ensures)

pub returns-clause-added : goal.returns-clause-added
returns-clause-added c =
    let one : c.string.new.self.tokens ≡ string c.args.text.now ∷ [] = c.in_ok-string.ensures.ok ∙ ap (λ before. before ++ string c.args.text.now ∷ []) c.token_writer-writer.ensures.tokens in
    let printed : c.deref.result.now ≡ print c.string.new.self.tokens = c.deref.ensures.value ∙ c.into_inner.ensures.items ∙ ap (λ before. before ++ print c.string.new.self.tokens) (c.string.ensures.room.0 ∙ c.token_writer-writer.ensures.before) in
    pushed_tokens _ _ c.self.invariant (string c.args.text.now) tt (IsUtf8-quoted _ c.utf8.text) _ true refl (text_begun _ _ _ (string c.args.text.now) _ refl (printed ∙ ap print one ∙ alone (string c.args.text.now)) c.in_ok-add.ensures)
    ∙ ap (λ l. l ++ string c.args.text.now ∷ []) c.self.view_is
