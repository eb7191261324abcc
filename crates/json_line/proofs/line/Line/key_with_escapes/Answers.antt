use Rattle.std.proofs.Common.{◌≡◌, ◌++◌, ◌∷◌, [], false, refl, ap, ◌∙◌}
use Rattle.json.specs.Token.{key}
use Rattle.json.specs.Print.{print}
use Rattle.json.proofs.Printed.Utf8.{IsUtf8-key}
use Rattle.json_line.proofs.OneMore.{alone, text_begun, pushed, pushed_tokens}
use Rattle.json_line.proofs.line.Line.key_with_escapes.Goals as goal

pub invariant_of-self-2 : goal.invariant_of-self-2
invariant_of-self-2 c =
    let one : c.key.new.self.tokens ≡ key c.args.name.now ∷ [] = c.in_ok-key.ensures.ok ∙ ap (λ before. before ++ key c.args.name.now ∷ []) c.token_writer-writer.ensures.tokens in
    let printed : c.deref.result.now ≡ print c.key.new.self.tokens = c.deref.ensures.value ∙ c.into_inner.ensures.items ∙ ap (λ before. before ++ print c.key.new.self.tokens) (c.key.ensures.room.0 ∙ c.token_writer-writer.ensures.before) in
    pushed _ _ c.self.invariant (key c.args.name.now) tt (IsUtf8-key _ c.utf8.name) _ false refl (text_begun _ _ _ (key c.args.name.now) _ refl (printed ∙ ap print one ∙ alone (key c.args.name.now)) c.in_ok-add.ensures)

pub returns-clause-added : goal.returns-clause-added
returns-clause-added c =
    let one : c.key.new.self.tokens ≡ key c.args.name.now ∷ [] = c.in_ok-key.ensures.ok ∙ ap (λ before. before ++ key c.args.name.now ∷ []) c.token_writer-writer.ensures.tokens in
    let printed : c.deref.result.now ≡ print c.key.new.self.tokens = c.deref.ensures.value ∙ c.into_inner.ensures.items ∙ ap (λ before. before ++ print c.key.new.self.tokens) (c.key.ensures.room.0 ∙ c.token_writer-writer.ensures.before) in
    pushed_tokens _ _ c.self.invariant (key c.args.name.now) tt (IsUtf8-key _ c.utf8.name) _ false refl (text_begun _ _ _ (key c.args.name.now) _ refl (printed ∙ ap print one ∙ alone (key c.args.name.now)) c.in_ok-add.ensures)
    ∙ ap (λ l. l ++ key c.args.name.now ∷ []) c.self.view_is
