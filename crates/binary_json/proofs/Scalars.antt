-- Scalars: what is checked is in the grammar, and what is in the grammar is checked.
use Rattle.std.proofs.Common.{◌≡◌, ℕ, suc, ◌+◌, ◌≤◌, Bool, true, false, cond, List, [], ◌∷◌, length, drop, Ok, refl, sym, ap, subst, ◌∙◌, inl, inr, arith}
use Rattle.std.specs.Prelude.{nat_lt, nat_le, nat_eq, ◌&&◌, slice_index}
use Rattle.std.proofs.lemmas.Bool.{ltb-false, leb-true, le-leb, le-ltb, eqb-true, ne_eqb, eq-eqb, and_parts, and_from}
use Rattle.binary_json.specs.Values.{Scalar, string, opaque}
use Rattle.binary_json.specs.Layout.{is_fixed, fixed_len, fixed, text}
use Rattle.binary_json.specs.Opaques.{is_opaque}
use Rattle.binary_json.specs.Grammar.{IsFixed, IsString, IsOpaque, IsScalar}
use Rattle.binary_json.specs.Refusals.{◌>>=◌, refuse, spend, is_unknown, fixed_left, text_left, opaque_left, opaque_left_of, scalar_left}
use Rattle.binary_json.specs.Decoding.{scalar_at}
use Rattle.binary_json.specs.declared.error.Refusal.TheVariants as refusals
use Rattle.binary_json.proofs.Steps.{bind_ok, passed, chosen, refused_ok, same_left, spent, spends}
use Rattle.binary_json.proofs.Texts.{text_sound, text_complete}

-- ---- types

pub fixed_bounds : (t : ℕ) → is_fixed t ≡ true → (4 ≤ t) × (t ≤ 11)
fixed_bounds t e = let p = and_parts (nat_le 4 t) (nat_le t 11) e in (leb-true 4 t p.0, leb-true t 11 p.1)

pub fixed_from : (t : ℕ) → 4 ≤ t → t ≤ 11 → is_fixed t ≡ true
fixed_from t low high = and_from (nat_le 4 t) (nat_le t 11) (le-leb 4 t low) (le-leb t 11 high)

not_fixed : (t : ℕ) → 12 ≤ t → is_fixed t ≡ false
not_fixed t high = grind arith

pub known_of : (t b : ℕ) → (nat_eq t 4 && nat_lt 2 b) ≡ false → t ≡ 4 → b ≤ 2
known_of t b e is = ltb-false 2 b (subst (λ (x : ℕ). (nat_eq x 4 && nat_lt 2 b) ≡ false) is e)

known_by : (t b : ℕ) → (t ≡ 4 → b ≤ 2) → (q : Bool) → nat_eq t 4 ≡ q → (q && nat_lt 2 b) ≡ false
known_by t b h true e = le-ltb 2 b (h (eqb-true t 4 e))
known_by t b h false e = refl

pub known_from : (t b : ℕ) → (t ≡ 4 → b ≤ 2) → (nat_eq t 4 && nat_lt 2 b) ≡ false
known_from t b h = known_by t b h (nat_eq t 4) refl

-- ---- literals and numbers

pub fixed_sound : (t place : ℕ) (s : List ℕ) (from rest : ℕ) → is_fixed t ≡ true → fixed_left t place s from ≡ Ok rest → IsFixed (fixed t s) t s × (fixed_len t + rest ≡ from)
unfolding fixed_left
fixed_sound t place s from rest kind e =
    let p = passed (nat_lt (length s) (fixed_len t)) _ (spend (fixed_len t) place from >>= λ left. cond (is_unknown t s) (refuse refusals.Literal place) (Ok left)) rest e in
    let q = bind_ok (spend (fixed_len t) place from) (λ left. cond (is_unknown t s) (refuse refusals.Literal place) (Ok left)) rest p.1 in
    let u = passed (is_unknown t s) _ (Ok q.0) rest q.2 in
    let bounds = fixed_bounds t kind in
    let is : IsFixed (fixed t s) t s = record {
      low = bounds.0;
      high = bounds.1;
      enough = ltb-false _ _ p.0;
      known = known_of t (slice_index s 0) u.0;
      is = refl;
    } in
    let paid = spent (fixed_len t) place from q.0 q.1 in
    (is, ap (λ (x : ℕ). fixed_len t + x) (sym (same_left q.0 rest u.1)) ∙ paid)

pub fixed_complete : (x : Scalar) (t place : ℕ) (s : List ℕ) (from rest : ℕ) → IsFixed x t s → fixed_len t + rest ≡ from → fixed_left t place s from ≡ Ok rest
unfolding fixed_left
fixed_complete x t place s from rest is e =
    let enough : nat_lt (length s) (fixed_len t) ≡ false = le-ltb _ _ is.enough in
    let known : is_unknown t s ≡ false = known_from t (slice_index s 0) is.known in
    rw (enough, spends (fixed_len t) place from rest e, known) refl

-- ---- opaque values

opaque_sound_of : (place : ℕ) (s : List ℕ) (from rest t : ℕ) → t ≡ 15 → opaque_left_of place s from ≡ Ok rest → (cost : ℕ) × IsOpaque (opaque (slice_index s 0) (text (drop 1 s))) t s cost × (cost + rest ≡ from)
opaque_sound_of place [] from rest t kind e = absurd cc
opaque_sound_of place (k ∷ s) from rest t kind e =
    let last = λ (left : ℕ). cond (is_opaque k (text s)) (Ok left) (refuse refusals.Opaque place) in
    let a = bind_ok (spend 1 place from) (λ left. text_left (place + 1) s left >>= last) rest e in
    let b = bind_ok (text_left (place + 1) s a.0) last rest a.2 in
    let paid = spent 1 place from a.0 a.1 in
    let text_is = text_sound (place + 1) s a.0 b.0 b.1 in
    elim (chosen (is_opaque k (text s)) (Ok b.0) (refuse refusals.Opaque place) rest b.2) [
      | inl x ↦ (
        suc text_is.0,
        record {
          kind_is = kind;
          column = k;
          rest = s;
          parts = refl;
          bytes = text s;
          text_cost = text_is.0;
          text = text_is.1;
          fits = x.0;
          is = refl;
          cost_is = refl;
        },
        omega (arith, text_is.2, paid, same_left b.0 rest x.1),
      )
      | inr x ↦ absurd (refused_ok x.1)
    ]

opaque_complete_of : (x : Scalar) (t place : ℕ) (s : List ℕ) (cost from rest : ℕ) → IsOpaque x t s cost → cost + rest ≡ from → (opaque_left_of place s from ≡ Ok rest) × (opaque (slice_index s 0) (text (drop 1 s)) ≡ x)
opaque_complete_of x t place s cost from rest is e =
    let paid : suc is.text_cost + rest ≡ from = omega (arith, e, is.cost_is) in
    let text_is = text_complete is.bytes is.rest is.text_cost (place + 1) (is.text_cost + rest) rest is.text refl in
    let first : spend 1 place from ≡ Ok (is.text_cost + rest) = spends 1 place from (is.text_cost + rest) (omega (arith, paid)) in
    let fits : is_opaque is.column (text is.rest) ≡ true = ap (is_opaque is.column) text_is.1 ∙ is.fits in
    let left : opaque_left_of place (is.column ∷ is.rest) from ≡ Ok rest = rw (first, text_is.0, fits) refl in
    let value : opaque is.column (text is.rest) ≡ x = ap (λ (bytes : List ℕ). opaque is.column bytes) text_is.1 ∙ sym is.is in
    subst (λ (r : List ℕ). (opaque_left_of place r from ≡ Ok rest) × (opaque (slice_index r 0) (text (drop 1 r)) ≡ x)) (sym is.parts) (left, value)

-- ---- all scalars

pub scalar_sound : (t place : ℕ) (s : List ℕ) (from rest : ℕ) → scalar_left t place s from ≡ Ok rest → (cost : ℕ) × IsScalar (scalar_at t s) t s cost × (cost + rest ≡ from)
unfolding scalar_left scalar_at opaque_left
scalar_sound t place s from rest e =
    elim (chosen (is_fixed t) (fixed_left t place s from) (cond (nat_eq t 12) (text_left place s from) (cond (nat_eq t 15) (opaque_left place s from) (refuse refusals.UnknownType place))) rest e) [
      | inl f ↦
          let bounds = fixed_bounds t f.0 in
          let is = fixed_sound t place s from rest f.0 f.1 in
          let not_string : nat_eq t 12 ≡ false = ne_eqb t 12 (λ h. omega (arith, h, bounds.1)) in
          let not_opaque : nat_eq t 15 ≡ false = ne_eqb t 15 (λ h. omega (arith, h, bounds.1)) in
          (fixed_len t, rw (not_string, not_opaque) (inl (is.0, refl)), is.1)
      | inr g ↦
          elim (chosen (nat_eq t 12) (text_left place s from) (cond (nat_eq t 15) (opaque_left place s from) (refuse refusals.UnknownType place)) rest g.1) [
            | inl f ↦
                let is = text_sound place s from rest f.1 in
                let string_is : IsString (string (text s)) t s is.0 = record { kind_is = eqb-true t 12 f.0; bytes = text s; text = is.1; is = refl } in
                (is.0, rw f.0 (inr (inl string_is)), is.2)
            | inr h ↦
                elim (chosen (nat_eq t 15) (opaque_left place s from) (refuse refusals.UnknownType place) rest h.1) [
                  | inl f ↦
                      let is = opaque_sound_of place s from rest t (eqb-true t 15 f.0) f.1 in
                      (is.0, rw (h.0, f.0) (inr (inr is.1)), is.2)
                  | inr f ↦ absurd (refused_ok f.1)
                ]
          ]
    ]

pub scalar_complete : (x : Scalar) (t place : ℕ) (s : List ℕ) (cost from rest : ℕ) → IsScalar x t s cost → cost + rest ≡ from → (4 ≤ t) × (scalar_left t place s from ≡ Ok rest) × (scalar_at t s ≡ x)
unfolding scalar_left scalar_at opaque_left
scalar_complete x t place s cost from rest (inl f) e =
    let is = f.0 in
    let kind : is_fixed t ≡ true = fixed_from t is.low is.high in
    let not_string : nat_eq t 12 ≡ false = ne_eqb t 12 (λ h. omega (arith, h, is.high)) in
    let not_opaque : nat_eq t 15 ≡ false = ne_eqb t 15 (λ h. omega (arith, h, is.high)) in
    (is.low, rw kind (fixed_complete x t place s from rest is (omega (arith, e, f.1))), rw (not_string, not_opaque) (sym is.is))
scalar_complete x t place s cost from rest (inr (inl is)) e =
    let kind : is_fixed t ≡ false = not_fixed t (omega (arith, is.kind_is)) in
    let string_kind : nat_eq t 12 ≡ true = eq-eqb t 12 is.kind_is in
    let both = text_complete is.bytes s cost place from rest is.text e in
    (omega (arith, is.kind_is), rw (kind, string_kind) both.0, rw string_kind (ap (λ (b : List ℕ). string b) both.1 ∙ sym is.is))
scalar_complete x t place s cost from rest (inr (inr is)) e =
    let kind : is_fixed t ≡ false = not_fixed t (omega (arith, is.kind_is)) in
    let not_string : nat_eq t 12 ≡ false = ne_eqb t 12 (λ h. omega (arith, h, is.kind_is)) in
    let opaque_kind : nat_eq t 15 ≡ true = eq-eqb t 15 is.kind_is in
    let both = opaque_complete_of x t place s cost from rest is e in
    (omega (arith, is.kind_is), rw (kind, not_string, opaque_kind) both.0, rw (not_string, opaque_kind) both.1)
