-- Documents: what is accepted is in the grammar, and what is in the grammar is accepted.
use Rattle.std.proofs.Common.{◌≡◌, ℕ, ◌-◌, ◌≤◌, ◌^◌, true, List, [], ◌∷◌, length, Ok, Err, refl, sym, ap, ◌∙◌, arith}
use Rattle.std.specs.Prelude.{is_none, is_ok}
use Rattle.binary_json.specs.Values.{Json}
use Rattle.binary_json.specs.Grammar.{IsDocument}
use Rattle.binary_json.specs.Refusals.{Left, refusal_in, value_left, document_refusal}
use Rattle.binary_json.specs.Decoding.{value_at, value_in, is_readable, document_value}
use Rattle.binary_json.proofs.Whole.{value_sound, value_complete}

none_refused : (r : Left) → is_none (refusal_in r) ≡ true → (x : ℕ) × (r ≡ Ok x)
none_refused (Ok x) e = (x, refl)
none_refused (Err d) e = absurd cc

pub found : (d : List ℕ) → is_none (document_refusal d) ≡ true → IsDocument d (document_value d)
unfolding document_refusal value_in
found [] e = refl
found (t ∷ s) e =
    let r = none_refused (value_left 100 t 1 s (length s)) e in
    let is = value_sound 100 t 1 s (length s) r.0 r.1 in
    (is.0, is.1, omega (arith, is.2), is.3)

pub accepted : (d : List ℕ) (v : Json) → IsDocument d v → (is_none (document_refusal d) ≡ true) × (document_value d ≡ v)
unfolding document_refusal value_in
accepted [] v is = (refl, sym is)
accepted (t ∷ s) v is =
    let both = value_complete v 100 t 1 s is.0 (length s) (length s - is.0) is.1 is.3 (omega (arith, is.2)) in
    (ap (λ (r : Left). is_none (refusal_in r)) both.0, both.1)

pub one_value : (d : List ℕ) (v w : Json) → IsDocument d v → IsDocument d w → v ≡ w
one_value d v w is too = sym (accepted d v is).1 ∙ (accepted d w too).1

-- A document's value may be read.
pub readable : (t : ℕ) (s : List ℕ) → is_none (document_refusal (t ∷ s)) ≡ true → length s ≤ 2 ^ 64 → is_readable t s ≡ true
unfolding document_refusal is_readable
readable t s e few =
    let r = none_refused (value_left 100 t 1 s (length s)) e in
    let is = value_sound 100 t 1 s (length s) r.0 r.1 in
    let both = value_complete (value_at 100 t s) 100 t 0 s is.0 (2 ^ 64) (2 ^ 64 - is.0) is.1 is.3 (omega (arith, is.2, few)) in
    ap (λ (r : Left). is_ok r) both.0
