-- The words of an option.
use Rattle.std.proofs.Common.{◌≡◌, true, ℕ, suc, zero, ◌<◌, arith, Bor, List, [], ◌∷◌, length, get_or, map, ◌∙◌, ap, bytes_eq}
use Rattle.std.proofs.lemmas.List.{get_or-map, length-map}
use Rattle.std.proofs.lemmas.List.Folds.{list_any_at}
use Rattle.binlog_undo_command.specs.Reasons.{is_among, AreSkipNames, IsSkipWord}

-- A word at a place is among the words.
pub among_at : (name : List ℕ) (words : List (Bor (List ℕ))) (i : ℕ) (none : Bor (List ℕ)) → i < length words → bytes_eq (get_or words i none).now name ≡ true
    → is_among name (map (λ (word : Bor (List ℕ)). word.now) words) ≡ true
among_at name words i none within is =
    list_any_at (λ (other : List ℕ). bytes_eq other name) (map (λ (word : Bor (List ℕ)). word.now) words) i [] (omega (arith, length-map words (λ (word : Bor (List ℕ)). word.now), within))
    (ap (λ (other : List ℕ). bytes_eq other name) (get_or-map (λ (word : Bor (List ℕ)). word.now) words i none [] within) ∙ is)

-- A word that is no name is among no names.
pub unknown_at : (words : List (Bor (List ℕ))) (i : ℕ) (none : Bor (List ℕ)) → i < length words → (IsSkipWord (get_or words i none).now → ⊥) → AreSkipNames (map (λ (word : Bor (List ℕ)). word.now) words) → ⊥
unknown_at [] i none within isnt are = absurd (omega (arith, within))
unknown_at (word ∷ words) zero none within isnt are = isnt are.0
unknown_at (word ∷ words) (suc i) none within isnt are = unknown_at words i none (omega (arith, within)) isnt are.1
