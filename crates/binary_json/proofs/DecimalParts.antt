-- What the bytes of an opaque value have.
use Rattle.std.proofs.Common.{◌≡◌, ℕ, ◌+◌, ◌-◌, ◌≤◌, ◌^◌, Bool, true, false, cond, List, [], ◌∷◌, length, refl, arith}
use Rattle.std.specs.Prelude.{nat_le, nat_eq, ◌&&◌}
use Rattle.std.proofs.lemmas.Bool.{and_parts, leb-true, eqb-true, ne_eqb}
use Rattle.binary_json.specs.Opaques.{groups, groups_len, magnitude, groups_fit, is_decimal, is_decimal_data, is_temporal, is_opaque}

pub record DecimalParts (precision scale : ℕ) (digits : List ℕ) : Type 0 where
  pub some : 1 ≤ precision
  pub most : precision ≤ 81
  pub within : scale ≤ precision
  pub few : scale ≤ 38
  pub len : length digits ≡ groups_len (groups precision scale)

pub decimal_parts : (precision scale : ℕ) (digits : List ℕ) → is_decimal precision scale digits ≡ true → DecimalParts precision scale digits
unfolding is_decimal
decimal_parts precision scale digits e =
    let a = and_parts _ (groups_fit (groups precision scale) (magnitude digits)) e in
    let b = and_parts _ (nat_eq (length digits) (groups_len (groups precision scale))) a.0 in
    let c = and_parts _ (nat_le scale 38) b.0 in
    let d = and_parts _ (nat_le scale precision) c.0 in
    let f = and_parts (nat_le 1 precision) (nat_le precision 81) d.0 in
    record {
      some = leb-true 1 precision f.0;
      most = leb-true precision 81 f.1;
      within = leb-true scale precision d.1;
      few = leb-true scale 38 c.1;
      len = eqb-true (length digits) (groups_len (groups precision scale)) b.1;
    }

pub parts_fit : (s : List ℕ) (precision scale : ℕ) (digits : List ℕ) → s ≡ precision ∷ scale ∷ digits → is_decimal_data s ≡ true → is_decimal precision scale digits ≡ true
parts_fit s precision scale digits is e = rw is at e

eight_of : (b : Bool) (s : List ℕ) → b ≡ true → cond b (nat_eq (length s) 8) true ≡ true → length s ≡ 8
eight_of true s is e = eqb-true (length s) 8 e
eight_of false s is e = absurd cc

not_decimal : (k : ℕ) → is_temporal k ≡ true → k ≡ 246 → ⊥
not_decimal k is e = let same : is_temporal 246 ≡ true = rw e at is in absurd cc

pub eight_bytes : (k : ℕ) (s : List ℕ) → is_temporal k ≡ true → is_opaque k s ≡ true → length s ≡ 8
unfolding is_opaque
eight_bytes k s is e = eight_of (is_temporal k) s is (rw (ne_eqb k 246 (not_decimal k is)) at e)
