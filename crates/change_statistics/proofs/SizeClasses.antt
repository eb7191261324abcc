-- The classes of sizes.
use Rattle.std.proofs.Common.{◌≡◌, ℕ, ◌+◌, ◌-◌, ◌*◌, ◌<◌, ◌≤◌, ◌^◌, Bool, true, false, ◌&&◌, eqb, ltb, leb, List, length, refl, sym, ap, ◌∙◌, arith}
use Rattle.std.specs.Prelude.{slice_index, slice_set}
use Rattle.std.specs.Int.{w64, leading_zeros}
use Rattle.std.specs.Int.Count.{leading_unique}
use Rattle.std.proofs.lemmas.Bool.{eqb-true, eq-eqb}
use Rattle.std.proofs.lemmas.Bool.Decides.{nat_tests}
use Rattle.std.proofs.lemmas.List.{get_or-set_same, get_or-set_other}
use Rattle.std.proofs.lemmas.Nat.{leading_le, leading_length}
use Rattle.change_statistics.specs.Counting.{counted, counted_if}
use Rattle.change_statistics.specs.Transactions.{class_of, sizes_with}

-- Of so many binary digits.
abbrev pub has_digits : (class bytes : ℕ) → Bool
has_digits class bytes = ltb bytes (2 ^ class) && leb (2 ^ class) (2 * bytes + 1)

pub class_within : (bytes : ℕ) → class_of bytes < 65
class_within bytes = omega (arith, leading_le 64 bytes)

both : (a b : Bool) → a ≡ true → b ≡ true → (a && b) ≡ true
both true true p q = refl
both true false p q = q
both false b p q = p

parts : (a b : Bool) → (a && b) ≡ true → (a ≡ true) × (b ≡ true)
parts true true is = (refl, refl)
parts true false is = absurd cc
parts false b is = absurd cc

below : (n m : ℕ) → n < m → ltb n m ≡ true
below n m is = grind (arith, nat_tests)

within : (n m : ℕ) → n ≤ m → leb n m ≡ true
within n m is = grind (arith, nat_tests)

is_below : (n m : ℕ) → ltb n m ≡ true → n < m
is_below n m is = grind (arith, nat_tests)

is_within : (n m : ℕ) → leb n m ≡ true → n ≤ m
is_within n m is = grind (arith, nat_tests)

own_class : (bytes : ℕ) → bytes < 2 ^ 64 → has_digits (class_of bytes) bytes ≡ true
own_class bytes fits =
    let found = leading_length 64 bytes fits in
    let is : class_of bytes ≡ found.0 = omega (arith, found.1) in
    ap (λ (m : ℕ). has_digits m bytes) is ∙ both (ltb bytes (2 ^ found.0)) (leb (2 ^ found.0) (2 * bytes + 1)) (below bytes (2 ^ found.0) found.2) (within (2 ^ found.0) (2 * bytes + 1) found.3)

one_class : (class bytes : ℕ) → class < 65 → has_digits class bytes ≡ true → class_of bytes ≡ class
one_class class bytes small is =
    let two = parts (ltb bytes (2 ^ class)) (leb (2 ^ class) (2 * bytes + 1)) is in
    let whole : (64 - class) + class ≡ 64 = omega arith in
    let zeros : 64 - class ≡ leading_zeros w64 bytes = leading_unique 64 bytes (64 - class) class whole (is_below bytes (2 ^ class) two.0) (is_within (2 ^ class) (2 * bytes + 1) two.1) in
    omega arith

-- A size is in the class of the number of its digits, and in no other.
pub is_class : (class bytes : ℕ) → class < 65 → bytes < 2 ^ 64 → eqb (class_of bytes) class ≡ has_digits class bytes
is_class class bytes small fits = by (eqb (class_of bytes) class) refl
  where
    other : (b : Bool) → has_digits class bytes ≡ b → eqb (class_of bytes) class ≡ false → false ≡ has_digits class bytes
    other true is apart = absurd (let no : true ≡ false = sym (eq-eqb (class_of bytes) class (one_class class bytes small is)) ∙ apart in cc)
    other false is apart = sym is

    by : (b : Bool) → eqb (class_of bytes) class ≡ b → eqb (class_of bytes) class ≡ has_digits class bytes
    by true is = is ∙ sym (own_class bytes fits) ∙ ap (λ (m : ℕ). has_digits m bytes) (eqb-true (class_of bytes) class is)
    by false is = is ∙ other (has_digits class bytes) refl is

-- What one size more makes of the number of a class.
pub sizes_more : (class bytes : ℕ) (sizes : List ℕ) → class < 65 → bytes < 2 ^ 64 → length sizes ≡ 65
    → slice_index (sizes_with bytes sizes) class ≡ counted_if (has_digits class bytes) (slice_index sizes class)
sizes_more class bytes sizes small fits long = by (eqb (class_of bytes) class) refl
  where
    by : (b : Bool) → eqb (class_of bytes) class ≡ b → slice_index (sizes_with bytes sizes) class ≡ counted_if (has_digits class bytes) (slice_index sizes class)
    by true is =
        let same : class_of bytes ≡ class = eqb-true (class_of bytes) class is in
        let room : class < length sizes = omega arith in
        ap (λ (m : ℕ). slice_index (slice_set sizes m (counted (slice_index sizes m) 1)) class) same
        ∙ get_or-set_same sizes class (counted (slice_index sizes class) 1) 0 room
        ∙ ap (λ (b : Bool). counted_if b (slice_index sizes class)) (sym is ∙ is_class class bytes small fits)
    by false is =
        get_or-set_other sizes (class_of bytes) class (counted (slice_index sizes (class_of bytes)) 1) 0 (λ same. absurd (let no : true ≡ false = sym (eq-eqb (class_of bytes) class (sym same)) ∙ is in cc))
        ∙ ap (λ (b : Bool). counted_if b (slice_index sizes class)) (sym is ∙ is_class class bytes small fits)
