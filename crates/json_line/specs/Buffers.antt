-- A buffer as contracts see it.
use Rattle.std.specs.Prelude.{◌≡◌, ℕ, Bool, true, false, cond, List, [], ◌∷◌, ◌++◌, refl, Result, MatchResult}
use Rattle.std.specs.Coded.{Coded, code_by, coded×, coded_list, coded_ℕ}

-- The written bytes; how many more fit before it has to grow; and the byte stored after them, if there is room for
-- one.
pub record Buffered : Type 0 where
  pub text : List ℕ
  pub room : ℕ
  pub next : List ℕ

-- A buffer as the tuple of its fields.
abbrev pub buffered_code : Coded Buffered
buffered_code =
    code_by (List ℕ × (ℕ × List ℕ)) (coded× (coded_list coded_ℕ) (coded× coded_ℕ (coded_list coded_ℕ)))
    (λ b. (b.text, (b.room, b.next))) (λ p. record { text = p.0; room = p.1.0; next = p.1.1 }) (λ _. refl)

-- A comma, if wanted.
abbrev pub comma : Bool → List ℕ
comma wanted = cond wanted (44 ∷ []) []

-- A minus sign, if wanted.
abbrev pub minus : Bool → List ℕ
minus wanted = cond wanted (45 ∷ []) []

-- The bytes are appended if this holds, else nothing is.
abbrev pub PutsIf : Bool → Buffered → Buffered → List ℕ → Type 0
PutsIf true old new bytes = new.text ≡ old.text ++ bytes
PutsIf false old new bytes = new.text ≡ old.text

-- The bytes are appended, or nothing is if an allocation failed.
abbrev pub Puts : {A E : Type 0} → Result A E → Buffered → Buffered → List ℕ → Type 0
Puts result old new bytes = MatchResult result (λ _. new.text ≡ old.text ++ bytes) (λ _. new.text ≡ old.text)
