use Rattle.std.proofs.Common.{◌≡◌, [], ◌∷◌, sym, ap, subst, ◌∙◌, rules}
use Rattle.std.specs.Prelude.{unwrap_or}
use Rattle.character_sets.specs.Decoding.{decoded}
use Rattle.character_sets.specs.Texts.{text_of, IsSound}
use Rattle.character_sets.proofs.Decoded.{left_is_text, text-first, text-no_first}
use Rattle.character_sets.proofs.characters.CharactersIterator.next.Goals as goal

pub invariant_of-self-in-Coded : goal.invariant_of-self-in-Coded
invariant_of-self-in-Coded c = left_is_text _ _ _ _ c.in_ok-first-in-Coded.ensures ∙ subst IsSound c.in-Coded.is c.self.invariant

pub returns-in_err-first-in-Coded-clause-steps : goal.returns-in_err-first-in-Coded-clause-steps
returns-in_err-first-in-Coded-clause-steps c =
    let none : c.args.self.now ≡ [] = sym c.self.view_is ∙ ap text_of c.in-Coded.is ∙ text-no_first _ _ (subst IsSound c.in-Coded.is c.self.invariant) c.in_err-first-in-Coded.ensures in
    search rules

pub returns-in_ok-first-in-Coded-clause-steps : goal.returns-in_ok-first-in-Coded-clause-steps
returns-in_ok-first-in-Coded-clause-steps c =
    sym c.self.view_is ∙ ap text_of c.in-Coded.is ∙ text-first _ _ _ _ (subst IsSound c.in-Coded.is c.self.invariant) c.in_ok-first-in-Coded.ensures

pub returns-in_ok-first-in-Coded-clause-goes : goal.returns-in_ok-first-in-Coded-clause-goes
returns-in_ok-first-in-Coded-clause-goes c =
    let split : c.args.self.now ≡ c.in_ok-first-in-Coded.first ∷ unwrap_or (decoded c.in-Coded.set c.in_ok-first-in-Coded.rest.now) []
    = sym c.self.view_is ∙ ap text_of c.in-Coded.is ∙ text-first _ _ _ _ (subst IsSound c.in-Coded.is c.self.invariant) c.in_ok-first-in-Coded.ensures in
    search rules
