-- Numbers of units, read.
use Rattle.std.proofs.Common.{◌≡◌, ℕ, zero, suc, ◌*◌, ◌^◌, ◌<◌, ◌≤◌, List, ◌++◌, codes, Option, Some, None, inl, inr, subst, sym, ◌∙◌, ap, arith}
use Rattle.std.proofs.Math.Nat.{le-mul_of_pos_right}
use Rattle.std.proofs.lemmas.List.{append_cancel_left, append_cancel_right}
use Rattle.std.specs.Prelude.{MatchOption}
use Rattle.std.specs.Option.{option_or}
use Rattle.std.specs.Str.Parse.{IsNumeral, without_leading_plus, digits_value}
use Rattle.binlog_summaries.specs.Intervals.{IsCount, IsCountOf, IsLength, IsInterval}

-- ---- a number of units

some_unit : (value unit : ℕ) → 0 < value * unit → 0 < unit
some_unit value zero some = absurd (omega arith)
some_unit value (suc unit) some = omega arith

-- What is no number of 32 bits has no seconds of 32 bits.
pub no_number : (text : List ℕ) (unit : ℕ) → (IsNumeral 10 (without_leading_plus text) × (digits_value 10 (without_leading_plus text) < 2 ^ 32) → ⊥)
    → (seconds : ℕ) → IsCount text unit seconds → ⊥
no_number text unit none seconds counted =
    let value : ℕ = digits_value 10 (without_leading_plus text) in
    let is : seconds ≡ value * unit = counted.is in
    let some : 0 < value * unit = subst (λ (n : ℕ). 0 < n) is counted.some in
    let small : value * unit < 2 ^ 32 = subst (λ (n : ℕ). n < 2 ^ 32) is counted.fits in
    let least : value ≤ value * unit = le-mul_of_pos_right value (some_unit value unit some) in
    none (counted.digits, omega (arith, small, least))

-- Too many seconds.
pub too_long : (text : List ℕ) (count unit : ℕ) → count ≡ digits_value 10 (without_leading_plus text) → (count * unit < 2 ^ 32 → ⊥) → (seconds : ℕ) → IsCount text unit seconds → ⊥
too_long text count unit value long seconds counted =
    long (subst (λ (n : ℕ). n * unit < 2 ^ 32) (sym value) (subst (λ (n : ℕ). n < 2 ^ 32) counted.is counted.fits))

-- No second.
pub too_short : (text : List ℕ) (count unit product : ℕ) → count ≡ digits_value 10 (without_leading_plus text) → product ≡ count * unit → product ≡ 0 → (seconds : ℕ) → IsCount text unit seconds → ⊥
too_short text count unit product value is none seconds counted =
    let same : product ≡ seconds = is ∙ ap (λ (n : ℕ). n * unit) value ∙ sym counted.is in
    let some : 0 < seconds = counted.some in
    absurd (omega (arith, same, none, some))

pub is_count : (text : List ℕ) (count unit product : ℕ) → IsNumeral 10 (without_leading_plus text) → count ≡ digits_value 10 (without_leading_plus text) → product ≡ count * unit
    → product < 2 ^ 32 → (product ≡ 0 → ⊥) → IsCount text unit product
is_count text count unit product digits value is fits some = record {
  digits = digits;
  is = is ∙ ap (λ (n : ℕ). n * unit) value;
  some = omega arith;
  fits = fits;
}

-- ---- a number before its unit

no_count_of : (letter : List ℕ) (unit : ℕ) (text count : List ℕ) → text ≡ count ++ letter → ((seconds : ℕ) → IsCount count unit seconds → ⊥) → (seconds : ℕ) → IsCountOf letter unit text seconds → ⊥
no_count_of letter unit text count is none seconds (other, other_is, counted) =
    let same : other ≡ count = append_cancel_right other count letter (sym other_is ∙ is) in
    none seconds (subst (λ (c : List ℕ). IsCount c unit seconds) same counted)

pub count_of : (letter : List ℕ) (unit : ℕ) (text count : List ℕ) → text ≡ count ++ letter → (found : Option ℕ)
    → MatchOption found ((seconds : ℕ) → ¬ (IsCount count unit seconds)) (λ seconds. IsCount count unit seconds)
    → MatchOption found ((seconds : ℕ) → ¬ (IsCountOf letter unit text seconds)) (λ seconds. IsCountOf letter unit text seconds)
count_of letter unit text count is None none = no_count_of letter unit text count is none
count_of letter unit text count is (Some seconds) counted = (count, is, counted)

-- ---- any unit

abbrev Finds : (letter : List ℕ) (unit : ℕ) → List ℕ → Option ℕ → Type 0
Finds letter unit text found = MatchOption found ((seconds : ℕ) → ¬ (IsCountOf letter unit text seconds)) (λ seconds. IsCountOf letter unit text seconds)

no_length : (text : List ℕ) → ((seconds : ℕ) → ¬ (IsCountOf (codes "s") 1 text seconds)) → ((seconds : ℕ) → ¬ (IsCountOf (codes "m") 60 text seconds)) → ((seconds : ℕ) → ¬ (IsCountOf (codes "h") 3600 text seconds))
    → (seconds : ℕ) → IsLength text seconds → ⊥
no_length text no_s no_m no_h seconds (inl s) = no_s seconds s
no_length text no_s no_m no_h seconds (inr (inl m)) = no_m seconds m
no_length text no_s no_m no_h seconds (inr (inr h)) = no_h seconds h

pub length_of : (text : List ℕ) (in_seconds in_minutes in_hours : Option ℕ) → Finds (codes "s") 1 text in_seconds → Finds (codes "m") 60 text in_minutes → Finds (codes "h") 3600 text in_hours
    → MatchOption (option_or (option_or in_seconds in_minutes) in_hours) ((seconds : ℕ) → ¬ (IsLength text seconds)) (λ seconds. IsLength text seconds)
length_of text (Some seconds) in_minutes in_hours s m h = inl s
length_of text None (Some seconds) in_hours s m h = inr (inl m)
length_of text None None (Some seconds) s m h = inr (inr h)
length_of text None None None s m h = no_length text s m h

-- ---- behind its word

no_interval : (name length : List ℕ) → name ≡ codes "time=" ++ length → ((seconds : ℕ) → IsLength length seconds → ⊥) → (seconds : ℕ) → IsInterval name seconds → ⊥
no_interval name length is none seconds (other, other_is, has) =
    let same : other ≡ length = append_cancel_left (codes "time=") other length (sym other_is ∙ is) in
    none seconds (subst (λ (l : List ℕ). IsLength l seconds) same has)

pub interval_of : (name length : List ℕ) → name ≡ codes "time=" ++ length → (found : Option ℕ)
    → MatchOption found ((seconds : ℕ) → ¬ (IsLength length seconds)) (λ seconds. IsLength length seconds)
    → MatchOption found ((seconds : ℕ) → ¬ (IsInterval name seconds)) (λ seconds. IsInterval name seconds)
interval_of name length is None none = no_interval name length is none
interval_of name length is (Some seconds) has = (length, is, has)
