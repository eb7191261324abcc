-- The number of a decimal number's digits.
use Rattle.std.proofs.Common.{◌≡◌, ℕ, zero, suc, ◌+◌, ◌*◌, ◌/◌, ◌%◌, ◌^◌, true, List, [], ◌∷◌, ◌++◌, length, drop, refl, sym, ap, ◌∙◌, arith}
use Rattle.std.specs.Prelude.{nat_lt}
use Rattle.std.proofs.Math.Nat.{pow-suc, one-le-pow, mod-eq_of_lt}
use Rattle.std.proofs.lemmas.Bool.{ltb-true, and_parts}
use Rattle.std.proofs.lemmas.List.{length-append}
use Rattle.std.proofs.lemmas.Nat.{pow-add}
use Rattle.byteorder.specs.Endian.{big_number}
use Rattle.binlog_values.specs.Contents.{digits_len, groups_fit}
use Rattle.binlog_values.specs.Texts.{last_digits}
use Rattle.binlog_values.specs.Decimals.{digits_number, groups_digits, digits_count, groups_number}
use Rattle.binlog_values.specs.DecimalLaws.{joined_by}
use Rattle.binlog_values.proofs.DigitTexts.{last_more, mod_ten_times, length-last_digits}

-- Digits behind others.
number_of_both : (a b : List ℕ) → digits_number (a ++ b) ≡ digits_number a * 10 ^ length b + digits_number b
number_of_both [] b = omega arith
number_of_both (digit ∷ a) b =
    let ih = number_of_both a b in
    let power : 10 ^ length (a ++ b) ≡ 10 ^ length a * 10 ^ length b = ap (λ (k : ℕ). 10 ^ k) (length-append a b) ∙ pow-add 10 (length a) (length b) in
    ap (λ (p : ℕ). digit * p + digits_number (a ++ b)) power
    ∙ ap (λ (n : ℕ). digit * (10 ^ length a * 10 ^ length b) + n) ih
    ∙ joined_by (10 ^ length a) (10 ^ length b) digit (digits_number a) (digits_number b)

number_of_last : (count n : ℕ) → digits_number (last_digits count n) ≡ n % 10 ^ count
unfolding last_digits
number_of_last zero n = omega arith
number_of_last (suc count) n =
    let ih = number_of_last count (n / 10) in
    ap digits_number (last_more count n)
    ∙ number_of_both (last_digits count (n / 10)) ((n % 10) ∷ [])
    ∙ omega (arith, ih, mod_ten_times (10 ^ count) n (one-le-pow count 10 (omega arith)))
    ∙ ap (λ (p : ℕ). n % p) (sym (pow-suc 10 count))

pub digits_of_groups : (counts s : List ℕ) → length (groups_digits counts s) ≡ digits_count counts
digits_of_groups [] s = refl
digits_of_groups (count ∷ counts) s =
    let ih = digits_of_groups counts (drop (digits_len count) s) in
    let group : ℕ = big_number (digits_len count) s in
    length-append (last_digits count group) (groups_digits counts (drop (digits_len count) s)) ∙ omega (arith, ih, length-last_digits count group)

pub number_of_groups : (counts s : List ℕ) → groups_fit counts s ≡ true → groups_number counts s ≡ digits_number (groups_digits counts s)
number_of_groups [] s fits = refl
number_of_groups (count ∷ counts) s fits =
    let group : ℕ = big_number (digits_len count) s in
    let rest : List ℕ = drop (digits_len count) s in
    let both = and_parts (nat_lt group (10 ^ count)) (groups_fit counts rest) fits in
    let ih = number_of_groups counts rest both.1 in
    let first : digits_number (last_digits count group) ≡ group = number_of_last count group ∙ mod-eq_of_lt (ltb-true _ _ both.0) in
    let power : 10 ^ length (groups_digits counts rest) ≡ 10 ^ digits_count counts = ap (λ (k : ℕ). 10 ^ k) (digits_of_groups counts rest) in
    sym (number_of_both (last_digits count group) (groups_digits counts rest)
    ∙ ap (λ (n : ℕ). n * 10 ^ length (groups_digits counts rest) + digits_number (groups_digits counts rest)) first
    ∙ ap (λ (p : ℕ). group * p + digits_number (groups_digits counts rest)) power
    ∙ ap (λ (n : ℕ). group * 10 ^ digits_count counts + n) (sym ih))
