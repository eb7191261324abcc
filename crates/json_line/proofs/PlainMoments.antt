-- The texts of dates and times need no escape.
use Rattle.std.proofs.Common.{◌≡◌, ℕ, zero, suc, ◌+◌, ◌/◌, ◌%◌, ◌^◌, ◌<◌, Bool, true, false, not, cond, ◌&&◌, List, [], ◌∷◌, ◌++◌, length, take, IsUtf8, refl, arith}
use Rattle.std.specs.Prelude.{nat_lt, ◌==◌}
use Rattle.std.proofs.lemmas.Bool.Decides.{nat_tests}
use Rattle.std.proofs.lemmas.Bool.{and_parts, and_from}
use Rattle.std.proofs.lemmas.Fmt.{decimal_by_steps}
use Rattle.std.specs.Fmt.{decimal}
use Rattle.json.specs.Print.{escape}
use Rattle.json_line.specs.Buffers.{minus}
use Rattle.json_line.specs.Passed.{is_other, PassedBetween}
use Rattle.json_line.specs.Moments.{pair, two_digits, year_text, date_text, clock_text, six_digits, fraction_text, time_text, date_time_text}
use Rattle.json_line.proofs.Passed.{as_it_is, is_text}

-- Each byte is ASCII and needs no escape.
abbrev pub are_passed : List ℕ → Bool
are_passed [] = true
are_passed (byte ∷ bytes) = not (is_other byte) && are_passed bytes

passed_between : (text : List ℕ) → are_passed text ≡ true → PassedBetween text 0 (length text)
passed_between [] is k from to = absurd (omega arith)
passed_between (byte ∷ text) is zero from to = (and_parts _ _ is).0
passed_between (byte ∷ text) is (suc k) from to = passed_between text (and_parts _ _ is).1 k (omega arith) (omega arith)

pub passed_text : (text : List ℕ) → are_passed text ≡ true → (escape text ≡ text) × IsUtf8 text
passed_text text is = (as_it_is true text (passed_between text is), is_text true text (passed_between text is))

pub both_passed : (a b : List ℕ) → are_passed a ≡ true → are_passed b ≡ true → are_passed (a ++ b) ≡ true
both_passed [] b p q = q
both_passed (byte ∷ a) b p q = let parts = and_parts _ _ p in and_from _ _ parts.0 (both_passed a b parts.1 q)

front_passed : (n : ℕ) (text : List ℕ) → are_passed text ≡ true → are_passed (take n text) ≡ true
front_passed zero text is = refl
front_passed (suc n) [] is = refl
front_passed (suc n) (byte ∷ text) is = let parts = and_parts _ _ is in and_from _ _ parts.0 (front_passed n text parts.1)

pub digit_passed : (n : ℕ) → n < 10 → not (is_other (48 + n)) ≡ true
digit_passed n small = grind (arith, nat_tests)

pair_passed : (n : ℕ) → n < 100 → are_passed (pair n) ≡ true
pair_passed n small = and_from _ _ (digit_passed (n / 10) (omega arith)) (and_from _ _ (digit_passed (n % 10) (omega arith)) refl)

pub decimal_passed : (n : ℕ) → n < 2 ^ 64 → are_passed (decimal n) ≡ true
decimal_passed n small =
    decimal_by_steps (λ n text. are_passed text ≡ true) (λ n digit. and_from _ _ (digit_passed n digit) refl)
    (λ n text more is. both_passed text _ is (and_from _ _ (digit_passed (n % 10) (omega arith)) refl)) n small

pub by_test : (b : Bool) (x y : List ℕ) → (b ≡ true → are_passed x ≡ true) → (b ≡ false → are_passed y ≡ true) → are_passed (cond b x y) ≡ true
by_test true x y p q = p refl
by_test false x y p q = q refl

below : (n m : ℕ) → nat_lt n m ≡ true → n < m
below n m is = grind (arith, nat_tests)

two_digits_passed : (n : ℕ) → n < 2 ^ 64 → are_passed (two_digits n) ≡ true
two_digits_passed n small = by_test (nat_lt n 100) (pair n) (decimal n) (λ is. pair_passed n (below n 100 is)) (λ is. decimal_passed n small)

year_passed : (n : ℕ) → n < 2 ^ 64 → are_passed (year_text n) ≡ true
year_passed n small =
    by_test (nat_lt n 10000) (pair (n / 100) ++ pair (n % 100)) (decimal n)
    (λ is. let few = below n 10000 is in both_passed (pair (n / 100)) (pair (n % 100)) (pair_passed (n / 100) (omega arith)) (pair_passed (n % 100) (omega arith)))
    (λ is. decimal_passed n small)

date_passed : (year month day : ℕ) → year < 2 ^ 64 → month < 2 ^ 64 → day < 2 ^ 64 → are_passed (date_text year month day) ≡ true
unfolding date_text
date_passed year month day y m d =
    both_passed (year_text year) _ (year_passed year y) (both_passed (two_digits month) _ (two_digits_passed month m) (two_digits_passed day d))

clock_passed : (hour minute second : ℕ) → hour < 2 ^ 64 → minute < 2 ^ 64 → second < 2 ^ 64 → are_passed (clock_text hour minute second) ≡ true
unfolding clock_text
clock_passed hour minute second h m s =
    both_passed (two_digits hour) _ (two_digits_passed hour h) (both_passed (two_digits minute) _ (two_digits_passed minute m) (two_digits_passed second s))

six_passed : (n : ℕ) → are_passed (six_digits n) ≡ true
six_passed n =
    both_passed (pair (n / 10000 % 100)) (pair (n / 100 % 100) ++ pair (n % 100)) (pair_passed (n / 10000 % 100) (omega arith))
    (both_passed (pair (n / 100 % 100)) (pair (n % 100)) (pair_passed (n / 100 % 100) (omega arith)) (pair_passed (n % 100) (omega arith)))

fraction_passed : (digits microseconds : ℕ) → are_passed (fraction_text digits microseconds) ≡ true
unfolding fraction_text
fraction_passed digits microseconds =
    by_test (digits == 0) [] (46 ∷ take digits (six_digits microseconds)) (λ is. refl) (λ is. front_passed digits (six_digits microseconds) (six_passed microseconds))

pub minus_passed : (wanted : Bool) → are_passed (minus wanted) ≡ true
minus_passed true = refl
minus_passed false = refl

pub plain_date : (year month day : ℕ) → year < 2 ^ 64 → month < 2 ^ 8 → day < 2 ^ 8 → (escape (date_text year month day) ≡ date_text year month day) × IsUtf8 (date_text year month day)
plain_date year month day y m d = passed_text _ (date_passed year month day y (omega arith) (omega arith))

pub plain_time : (is_negative : Bool) (hour minute second digits microseconds : ℕ) → hour < 2 ^ 64 → minute < 2 ^ 8 → second < 2 ^ 8
    → (escape (time_text is_negative hour minute second digits microseconds) ≡ time_text is_negative hour minute second digits microseconds) × IsUtf8 (time_text is_negative hour minute second digits microseconds)
unfolding time_text
plain_time is_negative hour minute second digits microseconds h m s =
    passed_text _ (both_passed (minus is_negative) _ (minus_passed is_negative)
    (both_passed (clock_text hour minute second) _ (clock_passed hour minute second h (omega arith) (omega arith)) (fraction_passed digits microseconds)))

pub plain_date_time : (year month day hour minute second digits microseconds : ℕ) → year < 2 ^ 64 → month < 2 ^ 8 → day < 2 ^ 8 → hour < 2 ^ 64 → minute < 2 ^ 8 → second < 2 ^ 8
    → (escape (date_time_text year month day hour minute second digits microseconds) ≡ date_time_text year month day hour minute second digits microseconds)
    × IsUtf8 (date_time_text year month day hour minute second digits microseconds)
unfolding date_time_text
plain_date_time year month day hour minute second digits microseconds y mo d h mi s =
    passed_text _ (both_passed (date_text year month day) _ (date_passed year month day y (omega arith) (omega arith))
    (both_passed (clock_text hour minute second) _ (clock_passed hour minute second h (omega arith) (omega arith)) (fraction_passed digits microseconds)))
