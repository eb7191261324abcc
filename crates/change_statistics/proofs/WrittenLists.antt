-- Texts of the items of a list that are written one behind the other.
use Rattle.std.proofs.Common.{◌≡◌, inl, inr, ℕ, zero, suc, ◌+◌, ◌<◌, List, [], ◌∷◌, ◌++◌, length, take, Option, Some, sym, ap, subst, ◌∙◌, append_assoc, append-nil, arith}
use Rattle.std.proofs.lemmas.Option.{slice_get_cases}
use Rattle.std.specs.Prelude.{IfSome, slice_get, flat_map}
use Rattle.std.specs.Io.KnownBytes.{Appends}
use Rattle.change_statistics.proofs.WrittenTexts.{appends_both}

-- One item more.
pub taken_more : {X : Type 0} (rows : List X) (i : ℕ) (row : X) → slice_get rows i ≡ Some row → take (i + 1) rows ≡ take i rows ++ row ∷ []
taken_more {X} [] i row is = absurd cc
taken_more {X} (x ∷ rows) zero row is =
    let same : x ≡ row = cc in
    ap (λ (y : X). y ∷ []) same
taken_more {X} (x ∷ rows) (suc i) row is =
    let next : suc i + 1 ≡ suc (i + 1) = omega arith in
    ap (λ (n : ℕ). take n (x ∷ rows)) next ∙ ap (λ (l : List X). x ∷ l) (taken_more rows i row is)

-- What is known of the item at an index within the list.
pub at_entry : {X : Type 0} (entries : List X) (i : ℕ) (P : X → Type 0) → i < length entries → IfSome (slice_get entries i) P → (entry : X) × (slice_get entries i ≡ Some entry) × P entry
at_entry {X} entries i P within holds =
    elim (slice_get_cases entries i).1 [
      | inl (entry, _, at, _) ↦ (entry, at, subst (λ (o : Option X). IfSome o P) at holds)
      | inr (past, _) ↦ absurd (omega arith)
    ]

pub flat_more : {X Y : Type 0} (f : X → List Y) (xs : List X) (x : X) → flat_map f (xs ++ x ∷ []) ≡ flat_map f xs ++ f x
flat_more f [] x = append-nil (f x)
flat_more {X} {Y} f (first ∷ xs) x = ap (λ (t : List Y). f first ++ t) (flat_more f xs x) ∙ sym (append_assoc (f first) (flat_map f xs) (f x))

pub row_written : {X : Type 0} (f : X → List ℕ) (entries : List X) (i : ℕ) (old mid new : Option (List ℕ)) → i < length entries → Appends old mid (flat_map f (take i entries)) → IfSome (slice_get entries i) (λ entry. Appends mid new (f entry))
    → Appends old new (flat_map f (take (i + 1) entries))
row_written {X} f entries i old mid new within so_far one =
    let found = at_entry entries i (λ (entry : X). Appends mid new (f entry)) within one in
    subst (Appends old new) (sym (ap (flat_map f) (taken_more entries i found.0 found.1) ∙ flat_more f (take i entries) found.0))
    (appends_both old mid new (flat_map f (take i entries)) (f found.0) so_far found.2)
