-- The last digits of a number.
use Rattle.std.proofs.Common.{◌≡◌, ℕ, zero, suc, ◌+◌, ◌-◌, ◌*◌, ◌/◌, ◌%◌, ◌^◌, ◌<◌, ◌≤◌, List, [], ◌∷◌, ◌++◌, length, map, refl, sym, ap, ◌∙◌, arith}
use Rattle.std.proofs.Math.Nat.{pow-suc, pow-succ', one-le-pow, div-div-eq-div-mul, mul_assoc, le-mul_of_pos_right}
use Rattle.std.proofs.lemmas.Nat.{mod-mul-add, div-add-mod'}
use Rattle.std.proofs.lemmas.List.{take_all, length-map, map-append}
use Rattle.std.proofs.lemmas.Fmt.{decimal_digit, decimal_step}
use Rattle.std.specs.Fmt.{decimal}
use Rattle.std.specs.List.{slice_range}
use Rattle.binlog_values.specs.Texts.{last_digits, digits_text}

-- The last digit, behind those of a tenth of the number.
pub last_more : (count n : ℕ) → last_digits (suc count) n ≡ last_digits count (n / 10) ++ (n % 10) ∷ []
unfolding last_digits
last_more zero n =
    let one : n / 10 ^ 0 % 10 ≡ n % 10 = omega arith in
    ap (λ (d : ℕ). d ∷ []) one
last_more (suc count) n =
    let shifted : n / 10 ^ suc count ≡ n / 10 / 10 ^ count = ap (λ (p : ℕ). n / p) (pow-succ' 10 count) ∙ sym (div-div-eq-div-mul n 10 (10 ^ count)) in
    ap (λ (m : ℕ). (m % 10) ∷ last_digits (suc count) n) shifted ∙ ap (λ (t : List ℕ). (n / 10 / 10 ^ count % 10) ∷ t) (last_more count n)

digit_before : (count n : ℕ) → digits_text (suc count) n ≡ digits_text count (n / 10) ++ (48 + n % 10) ∷ []
digit_before count n = ap (map (λ (digit : ℕ). 48 + digit)) (last_more count n) ∙ map-append (λ (digit : ℕ). 48 + digit) (last_digits count (n / 10)) ((n % 10) ∷ [])

-- The remainder by ten times a number.
pub mod_ten_times : (k n : ℕ) → 0 < k → n % (k * 10) ≡ n / 10 % k * 10 + n % 10
mod_ten_times k n some =
    let tenth : n / 10 / k * k + n / 10 % k ≡ n / 10 = div-add-mod' (n / 10) k in
    let below : n / 10 % k < k = omega (arith, some) in
    let small : n / 10 % k * 10 + n % 10 < k * 10 = omega (arith, below) in
    let parts : n / 10 / k * (k * 10) + (n / 10 % k * 10 + n % 10) ≡ n = omega (arith, tenth) in
    ap (λ (m : ℕ). m % (k * 10)) (sym parts) ∙ mod-mul-add (n / 10 / k) (k * 10) (n / 10 % k * 10 + n % 10) small

-- The digits of a number that has this one before so many last digits.
pub digit_and_last : (digit count n : ℕ) → 1 ≤ digit → digit ≤ 9 → digit * 10 ^ count + n % 10 ^ count < 2 ^ 64
    → decimal (digit * 10 ^ count + n % 10 ^ count) ≡ (48 + digit) ∷ digits_text count n
unfolding last_digits
digit_and_last digit zero n some few small = let e : digit * 1 + n % 1 ≡ digit = omega arith in rw e (decimal_digit digit (omega (arith, few)))
digit_and_last digit (suc count) n some few small =
    let power : 1 ≤ 10 ^ count = one-le-pow count 10 (omega arith) in
    let front : digit * (10 ^ count * 10) ≡ digit * 10 ^ count * 10 = sym (mul_assoc digit (10 ^ count) 10) in
    let first : 1 ≤ digit * 10 ^ count = omega (arith, power, some, le-mul_of_pos_right digit power) in
    let whole : digit * 10 ^ suc count + n % 10 ^ suc count ≡ (digit * 10 ^ count + n / 10 % 10 ^ count) * 10 + n % 10 =
    ap (λ (m : ℕ). digit * m + n % m) (pow-suc 10 count) ∙ omega (arith, front, mod_ten_times (10 ^ count) n power) in
    let tenth : (digit * 10 ^ suc count + n % 10 ^ suc count) / 10 ≡ digit * 10 ^ count + n / 10 % 10 ^ count = omega (arith, whole) in
    let last : (digit * 10 ^ suc count + n % 10 ^ suc count) % 10 ≡ n % 10 = omega (arith, whole) in
    let before : decimal (digit * 10 ^ count + n / 10 % 10 ^ count) ≡ (48 + digit) ∷ digits_text count (n / 10) = digit_and_last digit count (n / 10) some few (omega (arith, whole, small)) in
    decimal_step (digit * 10 ^ suc count + n % 10 ^ suc count) (omega (arith, whole, first)) small
    ∙ ap (λ (m : ℕ). decimal m ++ (48 + (digit * 10 ^ suc count + n % 10 ^ suc count) % 10) ∷ []) tenth
    ∙ ap (λ (d : ℕ). decimal (digit * 10 ^ count + n / 10 % 10 ^ count) ++ (48 + d) ∷ []) last
    ∙ ap (λ (l : List ℕ). l ++ (48 + n % 10) ∷ []) before
    ∙ ap (λ (l : List ℕ). (48 + digit) ∷ l) (sym (digit_before count n))

-- The digits of a number that has a one before so many last digits.
one_before : (count n : ℕ) → 10 ^ count + n % 10 ^ count < 2 ^ 64 → decimal (10 ^ count + n % 10 ^ count) ≡ 49 ∷ digits_text count n
one_before count n small =
    let one : 1 * 10 ^ count ≡ 10 ^ count = omega arith in
    ap (λ (m : ℕ). decimal (m + n % 10 ^ count)) (sym one) ∙ digit_and_last 1 count n (omega arith) (omega arith) (omega (arith, one, small))

pub length-last_digits : (count n : ℕ) → length (last_digits count n) ≡ count
unfolding last_digits
length-last_digits zero n = refl
length-last_digits (suc count) n = ap suc (length-last_digits count n)

length-digits_text : (count n : ℕ) → length (digits_text count n) ≡ count
length-digits_text count n = length-map (last_digits count n) (λ (digit : ℕ). 48 + digit) ∙ length-last_digits count n

-- All digits of this number but the first are the last digits of a number, of which there are at most nine.
pub digits_behind_one : (power count n : ℕ) (text : List ℕ) → power ≡ 10 ^ count → power ≤ 10 ^ 9 → 1 ≤ power → text ≡ decimal (power + n % power) → (length text ≡ count + 1) × (slice_range text 1 (1 + count) ≡ digits_text count n)
digits_behind_one power count n text is few some shown =
    let below : n % power < power = omega (arith, some) in
    let small : 10 ^ count + n % 10 ^ count < 2 ^ 64 = rw (← is) (omega (arith, few, below)) in
    let whole : text ≡ 49 ∷ digits_text count n = shown ∙ ap (λ (m : ℕ). decimal (m + n % m)) is ∙ one_before count n small in
    let len : length (digits_text count n) ≡ count = length-digits_text count n in
    let front : 1 + count - 1 ≡ count = omega arith in
    rw (whole, front) (omega (arith, len), take_all count (digits_text count n) (omega (arith, len)))
