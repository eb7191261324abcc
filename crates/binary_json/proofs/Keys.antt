-- Members by their keys.
use lib.Pointwise.{pointwise, bytes_decides}
use Rattle.std.proofs.Common.{◌≡◌, ℕ, zero, suc, ◌+◌, ◌≤◌, Bool, true, false, List, [], ◌∷◌, length, Option, Some, None, sym, ap, ◌∙◌, inl, inr, arith}
use Rattle.std.specs.Prelude.{◌≢◌, nat_eq, option_map, slice_get}
use Rattle.std.specs.Bool.{OnTrue, OnFalse}
use Rattle.binary_json.specs.Values.{Json, IsFirstOfKey, HasNoKey}
use Rattle.binary_json.proofs.Left.{some, some_is, none_some}

-- None of the first members, so many, has the key.
abbrev pub Passed : List ℕ → ℕ → List (List ℕ × Json) → Type 0
Passed key zero ms = Unit {0}
Passed key (suc i) [] = Unit {0}
Passed key (suc i) (m ∷ ms) = (m.0 ≡ key → ⊥) × Passed key i ms

pub passed_more : (key : List ℕ) (ms : List (List ℕ × Json)) (i : ℕ) (k : List ℕ) → Passed key i ms → option_map (λ m. m.0) (slice_get ms i) ≡ Some k → (k ≡ key → ⊥) → Passed key (suc i) ms
passed_more key [] i k passed is other = absurd (none_some k is)
passed_more key (m ∷ ms) zero k passed is other = (λ e. other (sym (some_is m.0 k is) ∙ e), tt)
passed_more key (m ∷ ms) (suc i) k passed is other = (passed.0, passed_more key ms i k passed.1 is other)

found_at : (key : List ℕ) (ms : List (List ℕ × Json)) (i : ℕ) (m : List ℕ × Json) → Passed key i ms → slice_get ms i ≡ Some m → m.0 ≡ key → IsFirstOfKey key m.1 ms
found_at key [] i m passed is same = absurd (none_some m is)
found_at key (n ∷ ms) zero m passed is same = let e = some_is n m is in inl (ap (λ p. p.0) e ∙ same, ap (λ p. p.1) e)
found_at key (n ∷ ms) (suc i) m passed is same = inr (passed.0, found_at key ms i m passed.1 is same)

pub found_by : (key : List ℕ) (ms : List (List ℕ × Json)) (i : ℕ) (m : List ℕ × Json) (k : List ℕ) → Passed key i ms → slice_get ms i ≡ Some m
    → option_map (λ m. m.0) (slice_get ms i) ≡ Some k → k ≡ key → IsFirstOfKey key m.1 ms
found_by key ms i m k passed is shown same =
    let first : some m.0 ≡ some k = sym (ap (λ (o : Option (List ℕ × Json)). option_map (λ m. m.0) o) is) ∙ shown in
    found_at key ms i m passed is (some_is m.0 k first ∙ same)

pub none_found : (key : List ℕ) (ms : List (List ℕ × Json)) (i : ℕ) → Passed key i ms → length ms ≤ i → HasNoKey key ms
none_found key [] i passed past = tt
none_found key (m ∷ ms) zero passed past = absurd (omega arith)
none_found key (m ∷ ms) (suc i) passed past = (passed.0, none_found key ms i passed.1 (omega arith))

pub same_bytes : (a b : List ℕ) (r : Bool) → r ≡ pointwise nat_eq a b → OnTrue r (a ≡ b)
same_bytes a b true e = (bytes_decides a b).0 (sym e)
same_bytes a b false e = tt

pub other_bytes : (a b : List ℕ) (r : Bool) → r ≡ pointwise nat_eq a b → OnFalse r (a ≢ b)
other_bytes a b true e = tt
other_bytes a b false e = λ is. let both : false ≡ true = e ∙ (bytes_decides a b).1 is in absurd cc
