-- The texts of dates and times, as a line writes them.
use Rattle.std.proofs.Common.{◌≡◌, ℕ, zero, suc, ◌+◌, ◌-◌, ◌/◌, ◌%◌, ◌^◌, ◌<◌, ◌≤◌, Bool, true, false, cond, List, [], ◌∷◌, ◌++◌, take, Result, OnOk, refl, ap, sym, ◌∙◌, append_assoc, append-nil, arith}
use Rattle.std.specs.Prelude.{nat_lt, ◌==◌}
use Rattle.std.proofs.lemmas.Bool.Decides.{nat_tests}
use Rattle.std.specs.Fmt.{decimal}
use Rattle.json.specs.Token.{Token, string}
use Rattle.json_line.specs.Moments as moments
use Rattle.binlog_values.specs.Texts.{last_digits, digits_text, sign_text}
use Rattle.binlog_json_values.specs.Times.{two_digits, year_text, date_text, clock_text, fraction_text}

by_same : (b : Bool) (x y z : List ℕ) → (b ≡ true → x ≡ y) → cond b x z ≡ cond b y z
by_same true x y z is = is refl
by_same false x y z is = refl

below : (n m : ℕ) → nat_lt n m ≡ true → n < m
below n m is = grind (arith, nat_tests)

pair_same : (n : ℕ) → n < 100 → moments.pair n ≡ digits_text 2 n
unfolding last_digits
pair_same n small =
    let tens : n / 10 ≡ n / 10 ^ 1 % 10 = omega arith in
    let ones : n % 10 ≡ n / 10 ^ 0 % 10 = omega arith in
    λ i. (48 + tens i) ∷ (48 + ones i) ∷ []

four_same : (n : ℕ) → n < 10000 → moments.pair (n / 100) ++ moments.pair (n % 100) ≡ digits_text 4 n
unfolding last_digits
four_same n small =
    let first : n / 100 / 10 ≡ n / 10 ^ 3 % 10 = omega arith in
    let second : n / 100 % 10 ≡ n / 10 ^ 2 % 10 = omega arith in
    let third : n % 100 / 10 ≡ n / 10 ^ 1 % 10 = omega arith in
    let fourth : n % 100 % 10 ≡ n / 10 ^ 0 % 10 = omega arith in
    λ i. (48 + first i) ∷ (48 + second i) ∷ (48 + third i) ∷ (48 + fourth i) ∷ []

six_same : (n : ℕ) → moments.six_digits n ≡ digits_text 6 n
unfolding last_digits
six_same n =
    let first : n / 10000 % 100 / 10 ≡ n / 10 ^ 5 % 10 = omega arith in
    let second : n / 10000 % 100 % 10 ≡ n / 10 ^ 4 % 10 = omega arith in
    let third : n / 100 % 100 / 10 ≡ n / 10 ^ 3 % 10 = omega arith in
    let fourth : n / 100 % 100 % 10 ≡ n / 10 ^ 2 % 10 = omega arith in
    let fifth : n % 100 / 10 ≡ n / 10 ^ 1 % 10 = omega arith in
    let sixth : n % 100 % 10 ≡ n / 10 ^ 0 % 10 = omega arith in
    λ i. (48 + first i) ∷ (48 + second i) ∷ (48 + third i) ∷ (48 + fourth i) ∷ (48 + fifth i) ∷ (48 + sixth i) ∷ []

two_same : (n : ℕ) → moments.two_digits n ≡ two_digits n
two_same n = by_same (nat_lt n 100) (moments.pair n) (digits_text 2 n) (decimal n) (λ is. pair_same n (below n 100 is))

year_same : (n : ℕ) → moments.year_text n ≡ year_text n
year_same n = by_same (nat_lt n 10000) (moments.pair (n / 100) ++ moments.pair (n % 100)) (digits_text 4 n) (decimal n) (λ is. four_same n (below n 10000 is))

grouped : (a b c d e : List ℕ) → a ++ (b ++ (c ++ (d ++ e))) ≡ (((a ++ b) ++ c) ++ d) ++ e
grouped a b c d e = simp append_assoc

pub date_same : (year month day : ℕ) → moments.date_text year month day ≡ date_text year month day
unfolding date_text moments.date_text
date_same year month day =
    (λ i. year_same year i ++ (45 ∷ (two_same month i ++ (45 ∷ two_same day i)))) ∙ grouped (year_text year) (45 ∷ []) (two_digits month) (45 ∷ []) (two_digits day)

clock_same : (hour minute second : ℕ) → moments.clock_text hour minute second ≡ clock_text hour minute second
unfolding clock_text moments.clock_text
clock_same hour minute second =
    (λ i. two_same hour i ++ (58 ∷ (two_same minute i ++ (58 ∷ two_same second i)))) ∙ grouped (two_digits hour) (58 ∷ []) (two_digits minute) (58 ∷ []) (two_digits second)

-- The first of six digits are those of the number without the others.
front_same : (digits n : ℕ) → digits ≤ 6 → take digits (digits_text 6 n) ≡ digits_text digits (n / 10 ^ (6 - digits))
unfolding last_digits
front_same zero n few = refl
front_same (suc zero) n few =
    let a : n / 10 ^ 5 % 10 ≡ n / 10 ^ 5 / 10 ^ 0 % 10 = omega arith in
    λ i. (48 + a i) ∷ []
front_same (suc (suc zero)) n few =
    let a : n / 10 ^ 5 % 10 ≡ n / 10 ^ 4 / 10 ^ 1 % 10 = omega arith in
    let b : n / 10 ^ 4 % 10 ≡ n / 10 ^ 4 / 10 ^ 0 % 10 = omega arith in
    λ i. (48 + a i) ∷ (48 + b i) ∷ []
front_same (suc (suc (suc zero))) n few =
    let a : n / 10 ^ 5 % 10 ≡ n / 10 ^ 3 / 10 ^ 2 % 10 = omega arith in
    let b : n / 10 ^ 4 % 10 ≡ n / 10 ^ 3 / 10 ^ 1 % 10 = omega arith in
    let c : n / 10 ^ 3 % 10 ≡ n / 10 ^ 3 / 10 ^ 0 % 10 = omega arith in
    λ i. (48 + a i) ∷ (48 + b i) ∷ (48 + c i) ∷ []
front_same (suc (suc (suc (suc zero)))) n few =
    let a : n / 10 ^ 5 % 10 ≡ n / 10 ^ 2 / 10 ^ 3 % 10 = omega arith in
    let b : n / 10 ^ 4 % 10 ≡ n / 10 ^ 2 / 10 ^ 2 % 10 = omega arith in
    let c : n / 10 ^ 3 % 10 ≡ n / 10 ^ 2 / 10 ^ 1 % 10 = omega arith in
    let d : n / 10 ^ 2 % 10 ≡ n / 10 ^ 2 / 10 ^ 0 % 10 = omega arith in
    λ i. (48 + a i) ∷ (48 + b i) ∷ (48 + c i) ∷ (48 + d i) ∷ []
front_same (suc (suc (suc (suc (suc zero))))) n few =
    let a : n / 10 ^ 5 % 10 ≡ n / 10 ^ 1 / 10 ^ 4 % 10 = omega arith in
    let b : n / 10 ^ 4 % 10 ≡ n / 10 ^ 1 / 10 ^ 3 % 10 = omega arith in
    let c : n / 10 ^ 3 % 10 ≡ n / 10 ^ 1 / 10 ^ 2 % 10 = omega arith in
    let d : n / 10 ^ 2 % 10 ≡ n / 10 ^ 1 / 10 ^ 1 % 10 = omega arith in
    let e : n / 10 ^ 1 % 10 ≡ n / 10 ^ 1 / 10 ^ 0 % 10 = omega arith in
    λ i. (48 + a i) ∷ (48 + b i) ∷ (48 + c i) ∷ (48 + d i) ∷ (48 + e i) ∷ []
front_same (suc (suc (suc (suc (suc (suc zero)))))) n few =
    let all : n ≡ n / 10 ^ 0 = omega arith in
    ap (digits_text 6) all
front_same (suc (suc (suc (suc (suc (suc (suc more))))))) n few = absurd (omega arith)

by_other : (b : Bool) (x y z : List ℕ) → y ≡ z → cond b x y ≡ cond b x z
by_other true x y z is = refl
by_other false x y z is = is

fraction_same : (digits microseconds : ℕ) → digits ≤ 6 → moments.fraction_text digits microseconds ≡ fraction_text digits microseconds
unfolding moments.fraction_text
fraction_same digits microseconds few =
    by_other (digits == 0) [] (46 ∷ take digits (moments.six_digits microseconds)) (46 ∷ digits_text digits (microseconds / 10 ^ (6 - digits)))
    (ap (λ (l : List ℕ). 46 ∷ take digits l) (six_same microseconds) ∙ ap (λ (l : List ℕ). 46 ∷ l) (front_same digits microseconds few))

-- A date and a time.
pub date_time_same : (year month day hour minute second digits microseconds : ℕ) → digits ≤ 6
    → moments.date_time_text year month day hour minute second digits microseconds
    ≡ date_text year month day ++ 32 ∷ [] ++ clock_text hour minute second ++ fraction_text digits microseconds
unfolding moments.date_time_text
date_time_same year month day hour minute second digits microseconds few =
    (λ i. date_same year month day i ++ (32 ∷ (clock_same hour minute second i ++ fraction_same digits microseconds few i)))
    ∙ sym (append_assoc (date_text year month day) (32 ∷ []) (clock_text hour minute second ++ fraction_text digits microseconds))
    ∙ sym (append_assoc (date_text year month day ++ 32 ∷ []) (clock_text hour minute second) (fraction_text digits microseconds))

-- Without a fraction.
pub date_clock_same : (year month day hour minute second microseconds : ℕ)
    → moments.date_time_text year month day hour minute second 0 microseconds ≡ date_text year month day ++ 32 ∷ [] ++ clock_text hour minute second
date_clock_same year month day hour minute second microseconds =
    date_time_same year month day hour minute second 0 microseconds (omega arith) ∙ append-nil (date_text year month day ++ 32 ∷ [] ++ clock_text hour minute second)

-- A time.
pub time_same : (is_negative : Bool) (hour minute second digits microseconds : ℕ) → digits ≤ 6
    → moments.time_text is_negative hour minute second digits microseconds ≡ sign_text is_negative ++ clock_text hour minute second ++ fraction_text digits microseconds
unfolding moments.time_text
time_same is_negative hour minute second digits microseconds few =
    (λ i. sign_text is_negative ++ (clock_same hour minute second i ++ fraction_same digits microseconds few i))
    ∙ sym (append_assoc (sign_text is_negative) (clock_text hour minute second) (fraction_text digits microseconds))

-- Without a fraction.
pub time_clock_same : (is_negative : Bool) (hour minute second microseconds : ℕ)
    → moments.time_text is_negative hour minute second 0 microseconds ≡ sign_text is_negative ++ clock_text hour minute second
time_clock_same is_negative hour minute second microseconds =
    time_same is_negative hour minute second 0 microseconds (omega arith) ∙ append-nil (sign_text is_negative ++ clock_text hour minute second)

-- The string of a text that is another.
pub string_as : {A E : Type 0} (result : Result A E) (old new : List Token) (written text : List ℕ) → written ≡ text
    → OnOk result (new ≡ old ++ string written ∷ []) → OnOk result (new ≡ old ++ string text ∷ [])
string_as result old new written text is added = rw (← is) added
