-- Texts in the character sets that no arm names.
use Rattle.std.proofs.Common.{◌≡◌, ℕ, List, Option, Some, refl, ap, ◌∙◌}
use Rattle.json_line.specs.Tokens.{text_value_in, text_value_in_stated}
use Rattle.character_sets.specs.declared.character_set.CharacterSet.{CharacterSet}
use Rattle.character_sets.specs.declared.character_set.CharacterSet.TheVariants.{Binary}

known_text : (set : CharacterSet) (s : List ℕ) → (set ≡ Binary → ⊥) → text_value_in_stated (Some set) s ≡ text_value_in set s
known_text Binary s other = absurd (other refl)
known_text _ s other = refl

-- A text in a set that is stated, and isn't `binary`.
pub other_text : (set : Option CharacterSet) (known : CharacterSet) (s : List ℕ) → set ≡ Some known → (set ≡ Some Binary → ⊥) → text_value_in_stated set s ≡ text_value_in known s
other_text set known s is other = ap (λ (o : Option CharacterSet). text_value_in_stated o s) is ∙ known_text known s (λ same. other (is ∙ ap (λ (k : CharacterSet). Some k) same))
