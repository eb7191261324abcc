use Rattle.std.proofs.Common.{◌≡◌, ℕ, List, true, sym, subst, rules}
use Rattle.std.specs.Prelude.{chars}
use Rattle.character_sets.specs.Spellings.{IsText}
use Rattle.character_sets.specs.Utf8Texts.{are_in_utf8}
use Rattle.character_sets.proofs.Utf8Lemmas.{text-utf8, utf8-text}
use Rattle.character_sets.proofs.characters.utf8_form.Goals as goal

pub returns-in_err-text-clause-none : goal.returns-in_err-text-clause-none
returns-in_err-text-clause-none c =
    let refused : (characters : List ℕ) → IsText c.args.set c.args.bytes.now characters → ⊥ = λ characters is.
    let found = utf8-text c.args.set c.args.bytes.now characters c.requires is in
    let outside = c.in_err-text.ensures.none found.0 in
    let within = subst (λ k. are_in_utf8 k (chars c.args.bytes.now) ≡ true) (sym c.coding_of.ensures) found.1 in
    cc
    in search rules

pub returns-clause-text : goal.returns-clause-text
returns-clause-text c =
    let some = c.in_ok-text.ensures.some in
    let within = subst (λ k. are_in_utf8 k (chars c.args.bytes.now) ≡ true) c.coding_of.ensures some.2 in
    (tt, subst (λ t. IsText c.args.set c.args.bytes.now (chars t)) (sym some.0) (text-utf8 c.args.set c.args.bytes.now c.requires some.1 within))
