-- What is spelled is read back.
use Rattle.std.proofs.Common.{◌≡◌, ℕ, Bool, true, false, List, [], ◌∷◌, ◌++◌, Option, Some, None, inl, inr, refl, sym, ap, ◌∙◌}
use Rattle.std.specs.Prelude.{option_map, if◌then◌else◌}
use Rattle.std.proofs.lemmas.Bool.{cases_eq, ne_eqb}
use Rattle.column_files.specs.Fields.{spelled, spelling, text_from, field_text}

begun : (c : ℕ) (s rest : List ℕ) → text_from false rest ≡ Some s → option_map (λ (t : List ℕ). c ∷ t) (text_from false rest) ≡ Some (c ∷ s)
begun c s rest h = ap (option_map (λ (t : List ℕ). c ∷ t)) h

plain : (b : ℕ) (s rest : List ℕ) → (b ≡ 9 → ⊥) → (b ≡ 10 → ⊥) → (b ≡ 0 → ⊥) → (b ≡ 92 → ⊥) → text_from false rest ≡ Some s → text_from false (spelled b ++ rest) ≡ Some (b ∷ s)
plain b s rest tab feed null slash h = simp (ne_eqb b 9 tab, ne_eqb b 10 feed, ne_eqb b 0 null, ne_eqb b 92 slash) (begun b s rest h)

tab : (s rest : List ℕ) → text_from false rest ≡ Some s → text_from false (spelled 9 ++ rest) ≡ Some (9 ∷ s)
tab s rest h = begun 9 s rest h

feed : (s rest : List ℕ) → text_from false rest ≡ Some s → text_from false (spelled 10 ++ rest) ≡ Some (10 ∷ s)
feed s rest h = begun 10 s rest h

null : (s rest : List ℕ) → text_from false rest ≡ Some s → text_from false (spelled 0 ++ rest) ≡ Some (0 ∷ s)
null s rest h = begun 0 s rest h

slash : (s rest : List ℕ) → text_from false rest ≡ Some s → text_from false (spelled 92 ++ rest) ≡ Some (92 ∷ s)
slash s rest h = begun 92 s rest h

byte_back : (b : ℕ) (s rest : List ℕ) → text_from false rest ≡ Some s → text_from false (spelled b ++ rest) ≡ Some (b ∷ s)
byte_back b s rest h =
    elim (cases_eq b 9) [
      | inl is ↦ rw is (tab s rest h)
      | inr not_tab ↦ elim (cases_eq b 10) [
        | inl is ↦ rw is (feed s rest h)
        | inr not_feed ↦ elim (cases_eq b 0) [
          | inl is ↦ rw is (null s rest h)
          | inr not_null ↦ elim (cases_eq b 92) [
            | inl is ↦ rw is (slash s rest h)
            | inr not_slash ↦ plain b s rest not_tab not_feed not_null not_slash h
          ]
        ]
      ]
    ]

pub read_back : (s : List ℕ) → field_text (spelling s) ≡ Some s
read_back [] = refl
read_back (b ∷ s) = byte_back b s (spelling s) (read_back s)

-- ---- what is read is a spelling

mapped : (c : ℕ) (o : Option (List ℕ)) (t : List ℕ) → option_map (λ (u : List ℕ). c ∷ u) o ≡ Some t → (u : List ℕ) × (o ≡ Some u) × (t ≡ c ∷ u)
mapped c None t h = absurd cc
mapped c (Some u) t h = (u, refl, cc)

-- Two bytes for one.
letter_read : (l c : ℕ) (s t : List ℕ) → spelled c ≡ 92 ∷ l ∷ [] → ((u : List ℕ) → text_from false s ≡ Some u → s ≡ spelling u) → option_map (λ (u : List ℕ). c ∷ u) (text_from false s) ≡ Some t → 92 ∷ l ∷ s ≡ spelling t
letter_read l c s t two rest h =
    let found = mapped c (text_from false s) t h in
    ap (λ (x : List ℕ). 92 ∷ l ∷ x) (rest found.0 found.1) ∙ sym (ap (λ (x : List ℕ). x ++ spelling found.0) two) ∙ sym (ap spelling found.2)

escape_read : (b : ℕ) (s t : List ℕ) → ((u : List ℕ) → text_from false s ≡ Some u → s ≡ spelling u) → text_from true (b ∷ s) ≡ Some t → 92 ∷ b ∷ s ≡ spelling t
escape_read b s t rest h =
    elim (cases_eq b 116) [
      | inl is ↦ rw is (letter_read 116 9 s t refl rest (rw is at h))
      | inr not_t ↦ elim (cases_eq b 110) [
        | inl is ↦ rw is (letter_read 110 10 s t refl rest (rw is at h))
        | inr not_n ↦ elim (cases_eq b 48) [
          | inl is ↦ rw is (letter_read 48 0 s t refl rest (rw is at h))
          | inr not_0 ↦ elim (cases_eq b 92) [
            | inl is ↦ rw is (letter_read 92 92 s t refl rest (rw is at h))
            | inr not_slash ↦ absurd (let none : None ≡ Some t = simp (ne_eqb b 116 not_t, ne_eqb b 110 not_n, ne_eqb b 48 not_0, ne_eqb b 92 not_slash) at h in cc)
          ]
        ]
      ]
    ]

no_text : (t : List ℕ) → None ≡ Some t → ⊥
no_text t h = cc

plain_read : (b : ℕ) (s t : List ℕ) → (b ≡ 92 → ⊥) → ((u : List ℕ) → text_from false s ≡ Some u → s ≡ spelling u) → text_from false (b ∷ s) ≡ Some t → b ∷ s ≡ spelling t
plain_read b s t slash rest h =
    elim (cases_eq b 0) [
      | inl is ↦ absurd (no_text t (rw is at h))
      | inr null ↦ elim (cases_eq b 9) [
        | inl is ↦ absurd (no_text t (rw is at h))
        | inr tab ↦ elim (cases_eq b 10) [
          | inl is ↦ absurd (no_text t (rw is at h))
          | inr feed ↦
              let here : option_map (λ (u : List ℕ). b ∷ u) (text_from false s) ≡ Some t = simp (ne_eqb b 92 slash, ne_eqb b 0 null, ne_eqb b 9 tab, ne_eqb b 10 feed) at h in
              let found = mapped b (text_from false s) t here in
              let one : spelled b ≡ b ∷ [] = simp (ne_eqb b 9 tab, ne_eqb b 10 feed, ne_eqb b 0 null, ne_eqb b 92 slash) refl in
              ap (λ (x : List ℕ). b ∷ x) (rest found.0 found.1) ∙ sym (ap (λ (x : List ℕ). x ++ spelling found.0) one) ∙ sym (ap spelling found.2)
        ]
      ]
    ]

from : (is_begun : Bool) (raw t : List ℕ) → text_from is_begun raw ≡ Some t → (if is_begun then 92 ∷ raw else raw) ≡ spelling t
from true [] t h = absurd (no_text t h)
from false [] t h = let none : [] ≡ t = cc in ap spelling none
from true (b ∷ s) t h = escape_read b s t (λ u k. from false s u k) h
from false (b ∷ s) t h =
    elim (cases_eq b 92) [
      | inl is ↦ rw is (from true s t (rw is at h))
      | inr slash ↦ plain_read b s t slash (λ u k. from false s u k) h
    ]

pub is_spelling : (raw t : List ℕ) → field_text raw ≡ Some t → raw ≡ spelling t
is_spelling raw t h = from false raw t h
