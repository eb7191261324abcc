-- The first line of a text.
use Rattle.std.proofs.Common.{◌≡◌, ℕ, ◌+◌, true, false, Bor, List, ◌++◌, length, take, drop, Option, Some, None, sym, ap, ◌∙◌, take-append-drop}
use Rattle.std.specs.Prelude.{nat_eq, option_map, IfSome, IfNone, MatchOption}
use Rattle.column_files.specs.Files.{header, behind_end, IsBody}
use Rattle.std.proofs.Math.Seq.{drop-append_seam}
use Rattle.std.specs.Cmp.Lexicographic.{pointwise, same_text}

begins : (text front rest : List ℕ) → pointwise nat_eq (take (length front) text) front ≡ true → rest ≡ drop (length front) text → text ≡ front ++ rest
begins text front rest same is =
    sym (take-append-drop (length front) text) ∙ ap (λ (t : List ℕ). t ++ drop (length front) text) (same_text (take (length front) text) front (sym same)) ∙ ap (λ (t : List ℕ). front ++ t) (sym is)

-- What is behind the names.
pub stripped : (text front : List ℕ) (r : Option (Bor (List ℕ)))
    → MatchOption r (pointwise nat_eq (take (length front) text) front ≡ false)
    (λ x. (pointwise nat_eq (take (length front) text) front ≡ true) × (x.now ≡ drop (length front) text) × (length x.now + length front ≡ length text))
    → IfSome r (λ x. text ≡ front ++ x.now)
stripped text front None cases = tt
stripped text front (Some x) cases = begins text front x.now cases.0 cases.1

-- What is behind the end of the first line.
pub body_found : {V : Type 0} (items : V → List ℕ) (text rest : List ℕ) (r : Option V) → text ≡ header ++ rest → option_map items r ≡ behind_end rest → IfSome r (λ (x : V). IsBody text (items x))
body_found items text rest None front is = tt
body_found items text rest (Some x) front is = record { rest = rest; front = front; ended = sym is }

-- The first line has no end.
pub unended : {V : Type 0} (items : V → List ℕ) (text rest : List ℕ) (r : Option V) → text ≡ header ++ rest → option_map items r ≡ behind_end rest → IfNone r ((body : List ℕ) → ¬ (IsBody text body))
unended items text rest None front is = λ body h.
    let rests : h.rest ≡ rest = sym (drop-append_seam header h.rest) ∙ ap (drop (length header)) (sym h.front ∙ front) ∙ drop-append_seam header rest in
    let bodies : Some body ≡ None = sym h.ended ∙ ap behind_end rests ∙ sym is in
    cc
unended items text rest (Some x) front is = tt

-- The text doesn't begin with the names.
pub headerless : (text : List ℕ) → ((rest : List ℕ) → ¬ (text ≡ header ++ rest)) → (body : List ℕ) → ¬ (IsBody text body)
headerless text none body h = none h.rest h.front
