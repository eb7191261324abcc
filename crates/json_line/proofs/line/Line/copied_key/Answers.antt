use Rattle.std.proofs.Common.{◌≡◌, ◌++◌, ◌∷◌, [], List, false, IsUtf8, refl, ap, sym, subst, ◌∙◌}
use Rattle.json.specs.Token.{Token, key}
use Rattle.json.specs.Print.{print, token_text}
use Rattle.json_line.proofs.OneMore.{print_shown, alone, text_begun, pushed, pushed_tokens}
use Rattle.json_line.proofs.line.Line.copied_key.Goals as goal

pub invariant_of-self-2 : goal.invariant_of-self-2
invariant_of-self-2 c =
    let token = key c.requires.name in
    let is : c.printed.inside.text.text ≡ token_text token = print_shown _ _ c.printed.invariant ∙ ap print (c.printed.view_is ∙ c.requires.is) ∙ alone token in
    pushed _ _ c.self.invariant token tt (subst IsUtf8 is c.printed.invariant.utf8) _ false refl (text_begun _ _ _ token _ refl is c.in_ok-add_written.ensures)

pub returns-clause-added : goal.returns-clause-added
returns-clause-added c =
    let token = key c.requires.name in
    let is : c.printed.inside.text.text ≡ token_text token = print_shown _ _ c.printed.invariant ∙ ap print (c.printed.view_is ∙ c.requires.is) ∙ alone token in
    pushed_tokens _ _ c.self.invariant token tt (subst IsUtf8 is c.printed.invariant.utf8) _ false refl (text_begun _ _ _ token _ refl is c.in_ok-add_written.ensures)
    ∙ ap (λ (l : List Token). l ++ token ∷ []) c.self.view_is ∙ ap (λ (l : List Token). c.args.self.now ++ l) (sym c.requires.is)
