-- Keys and values of entries: what is checked is in the grammar, and what is in the grammar is checked.
use Rattle.std.proofs.Common.{◌≡◌, ℕ, ◌+◌, ◌-◌, ◌<◌, ◌≤◌, Bool, true, false, cond, ◌⊎◌, List, length, drop, Option, Some, None, Ok, refl, sym, ap, subst, ◌∙◌, inl, inr, arith}
use Rattle.std.specs.Prelude.{nat_lt, nat_le, ◌&&◌, ◌||◌, slice_index}
use Rattle.std.proofs.lemmas.Bool.{ltb-false, leb-true, leb-false, lt-leb, le-ltb, and_parts, or_parts, or_from}
use Rattle.std.proofs.lemmas.List.{length-take, length-drop}
use Rattle.binary_json.specs.Values.{Scalar, Json, scalar, nesting}
use Rattle.binary_json.specs.Layout.{is_object, is_large, fixed_len, fixed, width, entry_count, byte_size, header_len, key_place, key_offset, key_size, key_bytes, value_place, value_type, value_offset, is_inlined, inlined_bytes, placed_bytes}
use Rattle.binary_json.specs.Grammar.{IsFixed, IsKey, IsInlined, IsPlaced, IsValue}
use Rattle.binary_json.specs.Refusals.{Left, refuse, spend, is_unknown, key_left, Check, value_left_by}
use Rattle.binary_json.specs.Decoding.{key_at, entry_at}
use Rattle.binary_json.specs.declared.error.Refusal.TheVariants as refusals
use Rattle.binary_json.proofs.Steps.{passed, chosen, same_left, spent, spends}
use Rattle.binary_json.proofs.Places.{value_within}
use Rattle.binary_json.proofs.Scalars.{known_of, known_from}

-- ---- keys

pub key_sound : (t place : ℕ) (s : List ℕ) (i from rest : ℕ) → key_left t place s i from ≡ Ok rest → (cost : ℕ) × IsKey (key_at t s i) t s i cost × (cost + rest ≡ from)
unfolding key_left
key_sound t place s i from rest e =
    let test : Bool = nat_lt (key_offset t s i) (header_len t s) || nat_lt (byte_size t s) (key_offset t s i + key_size t s i) in
    elim (chosen (is_object t) (cond test (refuse refusals.Key (place + key_place t i)) (spend (key_size t s i) (place + key_place t i) from)) (Ok from) rest e) [
      | inl x ↦
          let p = passed test _ (spend (key_size t s i) (place + key_place t i) from) rest x.1 in
          let bounds = or_parts (nat_lt (key_offset t s i) (header_len t s)) (nat_lt (byte_size t s) (key_offset t s i + key_size t s i)) p.0 in
          let is : IsKey (Some (key_bytes t s i)) t s i (key_size t s i) = (x.0, ltb-false _ _ bounds.0, ltb-false _ _ bounds.1, refl, refl) in
          (key_size t s i, subst (λ (b : Bool). IsKey (cond b (Some (key_bytes t s i)) None) t s i (key_size t s i)) (sym x.0) is, spent (key_size t s i) (place + key_place t i) from rest p.1)
      | inr x ↦
          let is : IsKey None t s i 0 = (x.0, refl) in
          (0, subst (λ (b : Bool). IsKey (cond b (Some (key_bytes t s i)) None) t s i 0) (sym x.0) is, let same = same_left from rest x.1 in omega (arith, same))
    ]

pub key_complete : (key : Option (List ℕ)) (t place : ℕ) (s : List ℕ) (i cost from rest : ℕ) → IsKey key t s i cost → cost + rest ≡ from → (key_left t place s i from ≡ Ok rest) × (key_at t s i ≡ key)
unfolding key_left
key_complete None t place s i cost from rest is e =
    let same : from ≡ rest = omega (arith, e, is.1) in
    (rw is.0 (ap (λ (n : ℕ). Ok n) same), rw is.0 refl)
key_complete (Some key) t place s i cost from rest is e =
    let paid : key_size t s i + rest ≡ from = omega (arith, e, is.4) in
    let within : (nat_lt (key_offset t s i) (header_len t s) || nat_lt (byte_size t s) (key_offset t s i + key_size t s i)) ≡ false = or_from _ _ (le-ltb _ _ is.1) (le-ltb _ _ is.2) in
    (rw (is.0, within) (spends (key_size t s i) (place + key_place t i) from rest paid), rw is.0 (ap (λ (k : List ℕ). Some k) (sym is.3)))

-- ---- values in entries

-- The bytes in an entry.
pub inlined_len : (t : ℕ) (s : List ℕ) (i : ℕ) → i < entry_count t s → header_len t s ≤ length s → length (inlined_bytes t s i) ≡ width t
unfolding inlined_bytes
inlined_len t s i less room =
    let within = value_within t s i less in
    let start : ℕ = value_place t s i + 1 in
    omega (arith, within, length-take (start + width t - start) (drop start s), length-drop start s)

inlined_bounds_by : (b : Bool) (k : ℕ) → (nat_le 4 k && nat_le k (cond b 8 6)) ≡ true → (4 ≤ k) × (k ≤ 8) × (fixed_len k ≤ cond b 4 2)
inlined_bounds_by true k e =
    let p = and_parts (nat_le 4 k) (nat_le k 8) e in
    let low : 4 ≤ k = leb-true 4 k p.0 in
    let high : k ≤ 8 = leb-true k 8 p.1 in
    (low, high, grind arith)
inlined_bounds_by false k e =
    let p = and_parts (nat_le 4 k) (nat_le k 6) e in
    let low : 4 ≤ k = leb-true 4 k p.0 in
    let high : k ≤ 6 = leb-true k 6 p.1 in
    (low, omega arith, grind arith)

pub inlined_bounds : (t k : ℕ) → is_inlined t k ≡ true → (4 ≤ k) × (k ≤ 8) × (fixed_len k ≤ width t)
inlined_bounds t k e = inlined_bounds_by (is_large t) k e

-- ---- values

module _ (check : Check) (value : ℕ → List ℕ → Json) (depth : ℕ) (t place : ℕ) (s : List ℕ) (i : ℕ) where
  abbrev pub Sound : Type 0
  Sound = (k place : ℕ) (s : List ℕ) (from rest : ℕ) → check k place s from ≡ Ok rest → (cost : ℕ) × IsValue (value k s) k s cost × (cost + rest ≡ from) × (nesting (value k s) ≤ depth)

  abbrev pub IsMember : Json → ℕ → ℕ → ℕ → Type 0
  IsMember v cost from rest = (IsInlined v t s i cost ⊎ IsPlaced (IsValue v) t s i cost) × (cost + rest ≡ from) × (nesting v ≤ depth)

  pub member_sound : Sound → i < entry_count t s → header_len t s ≤ length s → (from rest : ℕ) → value_left_by check t place s i from ≡ Ok rest → (cost : ℕ) × IsMember (entry_at value t s i) cost from rest
  unfolding value_left_by entry_at
  member_sound sound less room from rest e =
      let k : ℕ = value_type t s i in
      let test : Bool = nat_lt (value_offset t s i) (header_len t s) || nat_le (byte_size t s) (value_offset t s i) in
      let placed : Left = cond test (refuse refusals.Offset (place + value_place t s i)) (check k (place + value_offset t s i) (placed_bytes t s i) from) in
      elim (chosen (is_inlined t k) (cond (is_unknown k (inlined_bytes t s i)) (refuse refusals.Literal (place + value_place t s i)) (Ok from)) placed rest e) [
        | inl x ↦
            let p = passed (is_unknown k (inlined_bytes t s i)) _ (Ok from) rest x.1 in
            let bounds = inlined_bounds t k x.0 in
            let same = same_left from rest p.1 in
            let fixed_is : IsFixed (fixed k (inlined_bytes t s i)) k (inlined_bytes t s i) = record {
              low = bounds.0;
              high = omega (arith, bounds.1);
              enough = omega (arith, bounds.2, inlined_len t s i less room);
              known = known_of k (slice_index (inlined_bytes t s i) 0) p.0;
              is = refl;
            } in
            let v : Json = scalar (fixed k (inlined_bytes t s i)) in
            let is : IsInlined v t s i 0 = record { inlined = x.0; x = fixed k (inlined_bytes t s i); is_scalar = refl; fixed = fixed_is; no_cost = refl } in
            let member : IsMember v 0 from rest = (inl is, omega (arith, same), omega arith) in
            (0, subst (λ (b : Bool). IsMember (cond b v (value k (placed_bytes t s i))) 0 from rest) (sym x.0) member)
        | inr x ↦
            let p = passed test _ (check k (place + value_offset t s i) (placed_bytes t s i) from) rest x.1 in
            let bounds = or_parts (nat_lt (value_offset t s i) (header_len t s)) (nat_le (byte_size t s) (value_offset t s i)) p.0 in
            let inner = sound k (place + value_offset t s i) (placed_bytes t s i) from rest p.1 in
            let v : Json = value k (placed_bytes t s i) in
            let is : IsPlaced (IsValue v) t s i inner.0 = record { placed = x.0; behind = ltb-false _ _ bounds.0; within = leb-false _ _ bounds.1; is = inner.1 } in
            let member : IsMember v inner.0 from rest = (inr is, inner.2, inner.3) in
            (inner.0, subst (λ (b : Bool). IsMember (cond b (scalar (fixed k (inlined_bytes t s i))) v) inner.0 from rest) (sym x.0) member)
      ]

  pub inlined_complete : (v : Json) (cost from rest : ℕ) → IsInlined v t s i cost → cost + rest ≡ from → (value_left_by check t place s i from ≡ Ok rest) × (entry_at value t s i ≡ v)
  unfolding value_left_by entry_at
  inlined_complete v cost from rest is e =
      let same : from ≡ rest = omega (arith, e, is.no_cost) in
      let known : is_unknown (value_type t s i) (inlined_bytes t s i) ≡ false = known_from (value_type t s i) (slice_index (inlined_bytes t s i) 0) is.fixed.known in
      (rw (is.inlined, known) (ap (λ (n : ℕ). Ok n) same), rw is.inlined (ap (λ (x : Scalar). scalar x) (sym is.fixed.is) ∙ sym is.is_scalar))

  pub placed_complete : (v : Json) (cost from rest : ℕ) → IsPlaced (IsValue v) t s i cost
      → (check (value_type t s i) (place + value_offset t s i) (placed_bytes t s i) from ≡ Ok rest) × (value (value_type t s i) (placed_bytes t s i) ≡ v)
      → (value_left_by check t place s i from ≡ Ok rest) × (entry_at value t s i ≡ v)
  unfolding value_left_by entry_at
  placed_complete v cost from rest is inner =
      let within : (nat_lt (value_offset t s i) (header_len t s) || nat_le (byte_size t s) (value_offset t s i)) ≡ false = or_from _ _ (le-ltb _ _ is.behind) (lt-leb _ _ is.within) in
      (rw (is.placed, within) inner.0, rw is.placed inner.1)
