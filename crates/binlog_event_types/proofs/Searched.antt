-- The numbers of the types with a name.
use Rattle.std.specs.Prelude.{◌↔◌, IsTrue}
use Rattle.std.proofs.Common.{◌≡◌, ◌⊎◌, inl, inr, ℕ, ◌+◌, ◌<◌, ◌==◌, ◌||◌, Bool, true, false, List, [], ◌∷◌, ◌++◌, length, map, get_or, Bor, sym, ap, ◌∙◌, subst, refl, arith, eqb-true, eq-eqb}
use Rattle.std.proofs.lemmas.Bool.{cases_lt}
use Rattle.std.proofs.lemmas.List.{get_or-map}
use Rattle.std.proofs.lemmas.List.Folds.{list_any-append}
use Rattle.std.proofs.Math.Bool.{or-false}
use Rattle.binlog_event_types.specs.TypeNames.{is_among}

or_cases : (a b : Bool) → IsTrue (a || b) → IsTrue a ⊎ IsTrue b
or_cases true b h = inl refl
or_cases false b h = inr h

or_left : (a b : Bool) → IsTrue a → IsTrue (a || b)
or_left true b h = refl
or_left false b h = absurd cc

or_right : (a b : Bool) → IsTrue b → IsTrue (a || b)
or_right true b h = refl
or_right false b h = h

-- A number behind others.
among_more : (others : List ℕ) (last number : ℕ) → is_among number (others ++ last ∷ []) ≡ (is_among number others || (last == number))
among_more others last number =
    list_any-append (λ (other : ℕ). other == number) others (last ∷ []) ∙ ap (λ b. is_among number others || b) (or-false (last == number))

-- A number that is added has this.
pub added : (old new : List ℕ) (number : ℕ) (P : Type 0) → new ≡ old ++ number ∷ [] → P → (other : ℕ) → IsTrue (is_among other new) ↔ (IsTrue (is_among other old) ⊎ ((other ≡ number) × P))
added old new number P is p other =
    let same : is_among other new ≡ (is_among other old || (number == other)) = ap (is_among other) is ∙ among_more old number other in (
      λ h. elim (or_cases (is_among other old) (number == other) (sym same ∙ h)) [ inl was ↦ inl was | inr last ↦ inr (sym (eqb-true number other last), p) ],
      λ h. elim h [
        | inl was ↦ same ∙ or_left (is_among other old) (number == other) was
        | inr here ↦ same ∙ or_right (is_among other old) (number == other) (eq-eqb number other (sym here.0))
      ],
    )

-- No number is added that hasn't this.
pub not_added : (old : List ℕ) (number : ℕ) (P : Type 0) → (P → ⊥) → (other : ℕ) → IsTrue (is_among other old) ↔ (IsTrue (is_among other old) ⊎ ((other ≡ number) × P))
not_added old number P none other = (λ h. inl h, λ h. elim h [ inl was ↦ was | inr here ↦ absurd (none here.1) ])

-- One number more is looked at.
pub one_more : (old new : List ℕ) (number : ℕ) (P : ℕ → Type 0)
    → ((other : ℕ) → IsTrue (is_among other new) ↔ (IsTrue (is_among other old) ⊎ ((other ≡ number) × P number)))
    → ((other : ℕ) → IsTrue (is_among other old) ↔ ((other < number) × P other))
    → (other : ℕ) → IsTrue (is_among other new) ↔ ((other < number + 1) × P other)
one_more old new number P more were other = (
  λ h. elim ((more other).0 h) [
    | inl was ↦ let below = (were other).0 was in (omega (arith, below.0), below.1)
    | inr here ↦ (omega (arith, here.0), subst P (sym here.0) here.1)
  ],
  λ h. (more other).1 (elim (cases_lt other number) [
    | inl less ↦ inl ((were other).1 (less, h.1))
    | inr not_less ↦ let here : other ≡ number = omega (arith, h.0) in inr (here, subst P here h.1)
  ]),
)

-- All numbers are looked at.
pub all_found : (numbers : List ℕ) (end : ℕ) (P : ℕ → Type 0) → ((other : ℕ) → P other → other < end)
    → ((other : ℕ) → IsTrue (is_among other numbers) ↔ ((other < end) × P other)) → (other : ℕ) → IsTrue (is_among other numbers) ↔ P other
all_found numbers end P below were other = (λ h. ((were other).0 h).1, λ p. (were other).1 (below other p, p))

-- One number more hasn't this.
pub none_more : (P : ℕ → Type 0) (number : ℕ) (b : Bool) → b ≡ false → (IsTrue b ↔ P number) → ((n : ℕ) → n < number → P n → ⊥) → (n : ℕ) → n < number + 1 → P n → ⊥
none_more P number b is same none n within p =
    elim (cases_lt n number) [
      | inl less ↦ none n less p
      | inr more ↦
          let here : n ≡ number = omega arith in
          let holds : IsTrue b = same.1 (subst P here p) in
          absurd cc
    ]

-- One name more isn't that of the number.
pub no_name_more : (P : List ℕ → Type 0) (names : List (Bor (List ℕ))) (i : ℕ) (none : Bor (List ℕ)) (b : Bool) → i < length names → b ≡ false → (IsTrue b ↔ P (get_or names i none).now)
    → ((place : ℕ) → place < i → P (get_or (map (λ name. name.now) names) place []) → ⊥) → (place : ℕ) → place < i + 1 → P (get_or (map (λ name. name.now) names) place []) → ⊥
no_name_more P names i none b within is same before place less p =
    elim (cases_lt place i) [
      | inl earlier ↦ before place earlier p
      | inr more ↦
          let here : place ≡ i = omega arith in
          let text : get_or (map (λ (name : Bor (List ℕ)). name.now) names) i [] ≡ (get_or names i none).now = get_or-map (λ (name : Bor (List ℕ)). name.now) names i none [] within in
          let holds : IsTrue b = same.1 (subst P (ap (λ n. get_or (map (λ (name : Bor (List ℕ)). name.now) names) n []) here ∙ text) p) in
          absurd cc
    ]
