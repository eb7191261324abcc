-- The texts of dates and times, as a line writes them by their parts.
use Rattle.std.proofs.Common.{◌≡◌, ℕ, ◌+◌, ◌/◌, ◌%◌, ◌^◌, ◌<◌, Bool, true, false, cond, List, [], ◌∷◌, ◌++◌, refl, ap, sym, ◌∙◌, append_assoc, arith}
use Rattle.std.specs.Prelude.{ℤ, pos, nat_lt, unsigned_abs, int_lt}
use Rattle.std.proofs.lemmas.Bool.{lt-ltb}
use Rattle.std.proofs.lemmas.Bool.Decides.{nat_tests}
use Rattle.std.specs.Fmt.{decimal}
use Rattle.json_line.specs.Moments as moments
use Rattle.binary_json_lines.specs.Digits.{last_digits, digits_text, padded_text, sign_text}
use Rattle.binary_json_lines.specs.Times.{date_text, clock_text, size_text, time_text}

by_same : (b : Bool) (x y z : List ℕ) → (b ≡ true → x ≡ y) → cond b x z ≡ cond b y z
by_same true x y z is = is refl
by_same false x y z is = refl

below : (n m : ℕ) → nat_lt n m ≡ true → n < m
below n m is = grind (arith, nat_tests)

pair_same : (n : ℕ) → n < 100 → moments.pair n ≡ digits_text true (last_digits 2 n)
unfolding last_digits
pair_same n small =
    let tens : n / 10 ≡ n / 10 ^ 1 % 10 = omega arith in
    let ones : n % 10 ≡ n / 10 ^ 0 % 10 = omega arith in
    λ i. (48 + tens i) ∷ (48 + ones i) ∷ []

four_same : (n : ℕ) → n < 10000 → moments.pair (n / 100) ++ moments.pair (n % 100) ≡ digits_text true (last_digits 4 n)
unfolding last_digits
four_same n small =
    let first : n / 100 / 10 ≡ n / 10 ^ 3 % 10 = omega arith in
    let second : n / 100 % 10 ≡ n / 10 ^ 2 % 10 = omega arith in
    let third : n % 100 / 10 ≡ n / 10 ^ 1 % 10 = omega arith in
    let fourth : n % 100 % 10 ≡ n / 10 ^ 0 % 10 = omega arith in
    λ i. (48 + first i) ∷ (48 + second i) ∷ (48 + third i) ∷ (48 + fourth i) ∷ []

six_same : (n : ℕ) → moments.six_digits n ≡ digits_text true (last_digits 6 n)
unfolding last_digits
six_same n =
    let first : n / 10000 % 100 / 10 ≡ n / 10 ^ 5 % 10 = omega arith in
    let second : n / 10000 % 100 % 10 ≡ n / 10 ^ 4 % 10 = omega arith in
    let third : n / 100 % 100 / 10 ≡ n / 10 ^ 3 % 10 = omega arith in
    let fourth : n / 100 % 100 % 10 ≡ n / 10 ^ 2 % 10 = omega arith in
    let fifth : n % 100 / 10 ≡ n / 10 ^ 1 % 10 = omega arith in
    let sixth : n % 100 % 10 ≡ n / 10 ^ 0 % 10 = omega arith in
    λ i. (48 + first i) ∷ (48 + second i) ∷ (48 + third i) ∷ (48 + fourth i) ∷ (48 + fifth i) ∷ (48 + sixth i) ∷ []

two_same : (n : ℕ) → moments.two_digits n ≡ padded_text 2 n
two_same n = by_same (nat_lt n 100) (moments.pair n) (digits_text true (last_digits 2 n)) (decimal n) (λ is. pair_same n (below n 100 is))

year_same : (n : ℕ) → moments.year_text n ≡ padded_text 4 n
year_same n = by_same (nat_lt n 10000) (moments.pair (n / 100) ++ moments.pair (n % 100)) (digits_text true (last_digits 4 n)) (decimal n) (λ is. four_same n (below n 10000 is))

-- Six digits of fewer than a million microseconds.
fraction_same : (n : ℕ) → n < 10 ^ 6 → moments.fraction_text 6 n ≡ 46 ∷ padded_text 6 n
unfolding moments.fraction_text
fraction_same n small = ap (λ (l : List ℕ). 46 ∷ l) (six_same n ∙ ap (λ (b : Bool). cond b (digits_text true (last_digits 6 n)) (decimal n)) (sym (lt-ltb n (10 ^ 6) small)))

grouped : (a b c d e : List ℕ) → a ++ (b ++ (c ++ (d ++ e))) ≡ (((a ++ b) ++ c) ++ d) ++ e
grouped a b c d e = simp append_assoc

-- A date.
pub date_same : (n : ℕ) → moments.date_text (n / 2 ^ 5 / 13) (n / 2 ^ 5 % 13) (n % 2 ^ 5) ≡ date_text n
unfolding date_text moments.date_text
date_same n =
    (λ i. year_same (n / 2 ^ 5 / 13) i ++ (45 ∷ (two_same (n / 2 ^ 5 % 13) i ++ (45 ∷ two_same (n % 2 ^ 5) i))))
    ∙ grouped (padded_text 4 (n / 2 ^ 5 / 13)) (45 ∷ []) (padded_text 2 (n / 2 ^ 5 % 13)) (45 ∷ []) (padded_text 2 (n % 2 ^ 5))

-- The clock time of a packed number.
clock_same : (hour n : ℕ) → n % 2 ^ 24 < 10 ^ 6
    → moments.clock_text hour (n / 2 ^ 30 % 2 ^ 6) (n / 2 ^ 24 % 2 ^ 6) ++ moments.fraction_text 6 (n % 2 ^ 24) ≡ clock_text hour n
unfolding clock_text moments.clock_text
clock_same hour n small =
    let h = padded_text 2 hour in
    let m = padded_text 2 (n / 2 ^ 30 % 2 ^ 6) in
    let s = padded_text 2 (n / 2 ^ 24 % 2 ^ 6) in
    let f = padded_text 6 (n % 2 ^ 24) in
    (λ i. (two_same hour i ++ (58 ∷ (two_same (n / 2 ^ 30 % 2 ^ 6) i ++ (58 ∷ two_same (n / 2 ^ 24 % 2 ^ 6) i)))) ++ fraction_same (n % 2 ^ 24) small i)
    ∙ ap (λ (l : List ℕ). l ++ (46 ∷ f)) (grouped h (58 ∷ []) m (58 ∷ []) s) ∙ sym (append_assoc ((((h ++ 58 ∷ []) ++ m) ++ 58 ∷ []) ++ s) (46 ∷ []) f)

-- A time.
pub time_same : (hour n : ℕ) → n % 2 ^ 24 < 10 ^ 6
    → moments.time_text false hour (n / 2 ^ 30 % 2 ^ 6) (n / 2 ^ 24 % 2 ^ 6) 6 (n % 2 ^ 24) ≡ clock_text hour n
unfolding moments.time_text
time_same hour n small = clock_same hour n small

-- A date and a time.
pub moment_same : (date hour n : ℕ) → n % 2 ^ 24 < 10 ^ 6
    → moments.date_time_text (date / 2 ^ 5 / 13) (date / 2 ^ 5 % 13) (date % 2 ^ 5) hour (n / 2 ^ 30 % 2 ^ 6) (n / 2 ^ 24 % 2 ^ 6) 6 (n % 2 ^ 24)
    ≡ date_text date ++ 32 ∷ [] ++ clock_text hour n
unfolding moments.date_time_text
moment_same date hour n small =
    (λ i. date_same date i ++ (32 ∷ clock_same hour n small i)) ∙ sym (append_assoc (date_text date) (32 ∷ []) (clock_text hour n))

-- A packed number that isn't negative.
pub positive : (column : ℕ) (n : ℤ) → int_lt n (pos 0) ≡ false → size_text column (unsigned_abs n) ≡ time_text column n
unfolding time_text
positive column n is = ap (λ (b : Bool). sign_text b ++ size_text column (unsigned_abs n)) (sym is)
