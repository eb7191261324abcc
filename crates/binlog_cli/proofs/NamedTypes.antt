-- Names of types, one after another.
use Rattle.std.proofs.Common.{◌≡◌, refl, inl, inr, ℕ, ◌+◌, ◌<◌, List, [], length, map, get_or, Option, Some, None, option_map, unwrap_or, Bor, sym, ap, ◌∙◌, subst, arith}
use Rattle.std.proofs.lemmas.List.{get_or-map}
use Rattle.std.proofs.lemmas.Bool.{cases_lt}
use Rattle.binlog_event_types.specs.TypeNames.{IsNamed}

abbrev Text : Type 0
Text = List ℕ

abbrev texts_of : List (Bor Text) → List Text
texts_of names = map (λ (name : Bor Text). name.now) names

text_at : (names : List (Bor Text)) (i : ℕ) (none : Bor Text) → i < length names → get_or (texts_of names) i [] ≡ (get_or names i none).now
text_at names i none within = get_or-map (λ (name : Bor Text). name.now) names i none [] within

-- One name more is that of a type.
pub type_more : (names : List (Bor Text)) (i : ℕ) (none : Bor Text) (number : ℕ) → i < length names → IsNamed number (get_or names i none).now
    → ((place : ℕ) → place < i → (n : ℕ) × IsNamed n (get_or (map (λ name. name.now) names) place []))
    → (place : ℕ) → place < i + 1 → (n : ℕ) × IsNamed n (get_or (map (λ name. name.now) names) place [])
type_more names i none number within named before place less =
    elim (cases_lt place i) [
      | inl earlier ↦ before place earlier
      | inr more ↦
          let here : place ≡ i = omega arith in
          let text : get_or (texts_of names) place [] ≡ (get_or names i none).now = ap (λ n. get_or (texts_of names) n []) here ∙ text_at names i none within in
          (number, subst (λ (t : Text). IsNamed number t) (sym text) named)
    ]

-- The texts of the names that are given, if any are.
pub texts_if_given : (given : Option (Bor (List (Bor Text)))) (none : Bor (List (Bor Text))) → none.now ≡ []
    → map (λ (name : Bor Text). name.now) (unwrap_or given none).now ≡ unwrap_or (option_map (λ (s : Bor (List (Bor Text))). map (λ (v : Bor Text). v.now) s.now) given) []
texts_if_given None none empty = ap texts_of empty
texts_if_given (Some s) none empty = refl
