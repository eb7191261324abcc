-- Laws of the groups of digits of decimal numbers.
use Rattle.std.proofs.Common.{◌≡◌, ℕ, zero, suc, ◌+◌, ◌-◌, ◌*◌, ◌/◌, ◌%◌, ◌^◌, ◌<◌, ◌≤◌, Bool, true, false, cond, List, [], ◌∷◌, ◌++◌, length, drop, map, replicate, get_or, refl, sym, ap, ◌∙◌, arith}
use Rattle.std.specs.Prelude.{◌&&◌, nat_lt, nat_le}
use Rattle.std.proofs.lemmas.Bool.{leb-true, leb-false, ltb-true, and_parts, ne_eqb}
use Rattle.std.proofs.lemmas.List.{drop-map, drop-drop, length-drop}
use Rattle.std.proofs.Math.Nat.{add-mul, mul_assoc, pow-succ', le-mul_of_pos_right, mul-le-mul_right, suc-mul, one-le-pow, pow-le-pow_right}
use Rattle.std.proofs.lemmas.Nat.{pow-add}
use Rattle.byteorder.specs.Endian.{big_number}
use Rattle.byteorder.specs.Numbers.{big_from-cons}
use Rattle.binlog_wire.specs.Fields.{IsBytes}
use Rattle.binlog_wire.specs.Laws.{IsBytes-drop}
use Rattle.binlog_values.specs.Contents.{digits_len, groups, groups_len, decimal_len, magnitude, groups_fit, is_decimal_bytes}
use Rattle.binlog_values.specs.Decimals.{digits_count, groups_number, decimal_number}

-- The number of complemented bytes.
pub complemented : (k : ℕ) (s : List ℕ) → IsBytes s → k ≤ length s → big_number k (map (λ c. 255 - c) s) + big_number k s + 1 ≡ 256 ^ k
complemented zero s fits le = refl
complemented (suc k) [] fits le = absurd (omega arith)
complemented (suc k) (b ∷ s) fits le =
    let ih = complemented k s (λ i. fits (suc i)) (omega arith) in
    let byte : b < 256 = fits 0 in
    let p : ℕ = 256 ^ k in
    let whole : 255 - b + b ≡ 255 = omega arith in
    let e : (255 - b) * p + b * p ≡ 255 * p = sym (add-mul (255 - b) b p) ∙ ap (λ (x : ℕ). x * p) whole in
    let power : 256 ^ suc k ≡ 256 * p = pow-succ' 256 k in
    rw (big_from-cons 0 k (255 - b) (map (λ c. 255 - c) s), big_from-cons 0 k b s) (omega (arith, ih, e, power))

-- The number of a group, from its stored number, if it is the first group, if the number isn't negative, and from 256
-- to the power of the group's length.
abbrev pub adjusted : ℕ → Bool → ℕ → ℕ → ℕ
adjusted zero true all stored = stored - all / 2
adjusted zero false all stored = all / 2 - 1 - stored
adjusted (suc place) true all stored = stored
adjusted (suc place) false all stored = all - 1 - stored

first_by : (k b : ℕ) (s : List ℕ) → IsBytes (b ∷ s) → k ≤ length s → (t : Bool) → nat_le 128 b ≡ t
    → big_number (suc k) (cond t ((b - 128) ∷ s) ((127 - b) ∷ map (λ c. 255 - c) s)) ≡ adjusted 0 t (256 ^ suc k) (big_number (suc k) (b ∷ s))
first_by k b s fits le true is =
    let high : 128 ≤ b = leb-true 128 b is in
    let p : ℕ = 256 ^ k in
    let whole : b - 128 + 128 ≡ b = omega arith in
    let e : (b - 128) * p + 128 * p ≡ b * p = sym (add-mul (b - 128) 128 p) ∙ ap (λ (x : ℕ). x * p) whole in
    let power : 256 ^ suc k ≡ 256 * p = pow-succ' 256 k in
    rw (big_from-cons 0 k (b - 128) s, big_from-cons 0 k b s) (omega (arith, e, power))
first_by k b s fits le false is =
    let low : b < 128 = leb-false 128 b is in
    let p : ℕ = 256 ^ k in
    let whole : 127 - b + b ≡ 127 = omega arith in
    let e : (127 - b) * p + b * p ≡ 127 * p = sym (add-mul (127 - b) b p) ∙ ap (λ (x : ℕ). x * p) whole in
    let power : 256 ^ suc k ≡ 256 * p = pow-succ' 256 k in
    let others = complemented k s (λ i. fits (suc i)) le in
    rw (big_from-cons 0 k (127 - b) (map (λ c. 255 - c) s), big_from-cons 0 k b s) (omega (arith, e, power, others))

later_by : (place len b : ℕ) (s : List ℕ) → IsBytes (b ∷ s) → place + len ≤ length s → (t : Bool)
    → big_number len (drop (suc place) (cond t ((b - 128) ∷ s) ((127 - b) ∷ map (λ c. 255 - c) s))) ≡ adjusted (suc place) t (256 ^ len) (big_number len (drop place s))
later_by place len b s fits le true = refl
later_by place len b s fits le false =
    let e : drop place (map (λ c. 255 - c) s) ≡ map (λ c. 255 - c) (drop place s) = drop-map (λ c. 255 - c) place s in
    let left : len ≤ length (drop place s) = omega (arith, length-drop place s) in
    let others = complemented len (drop place s) (IsBytes-drop place s (λ i. fits (suc i))) left in
    rw e (omega (arith, others))

-- The number of the group at a place.
pub group_is : (s : List ℕ) (place len : ℕ) → IsBytes s → 1 ≤ len → place + len ≤ length s
    → big_number len (drop place (magnitude s)) ≡ adjusted place (nat_le 128 (get_or s 0 0)) (256 ^ len) (big_number len (drop place s))
group_is [] place len fits some le = absurd (omega arith)
group_is (b ∷ s) place zero fits some le = absurd (omega arith)
group_is (b ∷ s) zero (suc k) fits some le = first_by k b s fits (omega arith) _ refl
group_is (b ∷ s) (suc place) (suc k) fits some le = later_by place (suc k) b s fits (omega arith) (nat_le 128 b)

-- ---- the groups, one after the other

-- The number of bytes of groups of nine digits and one more group.
groups_count : (n tail : ℕ) → groups_len (replicate n 9 ++ tail ∷ []) ≡ 4 * n + digits_len tail
groups_count zero tail = omega arith
groups_count (suc n) tail = let ih = groups_count n tail in omega (arith, ih)

pub decimal_count : (precision scale : ℕ)
    → decimal_len precision scale ≡ digits_len ((precision - scale) % 9) + 4 * ((precision - scale) / 9 + scale / 9) + digits_len (scale % 9)
decimal_count precision scale = let e = groups_count ((precision - scale) / 9 + scale / 9) (scale % 9) in omega (arith, e)

and_true : (b : Bool) → (b && true) ≡ b
and_true true = refl
and_true false = refl

-- One more group of nine digits fits, or doesn't.
pub fit_step : (n i tail place : ℕ) (s : List ℕ) → i < n → groups_fit (replicate (n - i) 9 ++ tail ∷ []) (drop place s)
    ≡ (nat_lt (big_number 4 (drop place s)) (10 ^ 9) && groups_fit (replicate (n - (i + 1)) 9 ++ tail ∷ []) (drop (place + 4) s))
fit_step n i tail place s less =
    let left : n - i ≡ suc (n - (i + 1)) = omega arith in
    rw (left, ← drop-drop 4 place s) refl

-- The last group fits, or doesn't.
pub fit_end : (n i tail : ℕ) (s : List ℕ) → n - i ≡ 0 → groups_fit (replicate (n - i) 9 ++ tail ∷ []) s ≡ nat_lt (big_number (digits_len tail) s) (10 ^ tail)
fit_end n i tail s none = rw none (and_true (nat_lt (big_number (digits_len tail) s) (10 ^ tail)))

-- The number of bytes of a group that isn't whole.
few_len : (digits : ℕ) → digits < 9 → digits_len digits ≡ (digits + 1) / 2
few_len digits few = rw (ne_eqb digits 9 (λ e. omega (arith, few, e))) refl

-- A decimal number has a byte.
pub some_bytes : (precision scale : ℕ) → 1 ≤ precision → scale ≤ precision → 1 ≤ decimal_len precision scale
some_bytes precision scale some within =
    let lead : ℕ = (precision - scale) % 9 in
    let tail : ℕ = scale % 9 in
    omega (arith, decimal_count precision scale, few_len lead (omega arith), few_len tail (omega arith))

-- ---- the number of all digits

pub joined_by : (p q n g r : ℕ) → n * (p * q) + (g * q + r) ≡ (n * p + g) * q + r
joined_by p q n g r =
    let outer : (n * p + g) * q ≡ n * p * q + g * q = add-mul (n * p) g q in
    let product : n * p * q ≡ n * (p * q) = mul_assoc n p q in
    omega (arith, outer, product)

-- One more group behind the digits so far.
pub number_step : (n i tail place number : ℕ) (s : List ℕ) → i < n
    → number * 10 ^ digits_count (replicate (n - i) 9 ++ tail ∷ []) + groups_number (replicate (n - i) 9 ++ tail ∷ []) (drop place s)
    ≡ (number * 10 ^ 9 + big_number 4 (drop place s)) * 10 ^ digits_count (replicate (n - (i + 1)) 9 ++ tail ∷ []) + groups_number (replicate (n - (i + 1)) 9 ++ tail ∷ []) (drop (place + 4) s)
number_step n i tail place number s less =
    let counts : List ℕ = replicate (n - (i + 1)) 9 ++ tail ∷ [] in
    let left : n - i ≡ suc (n - (i + 1)) = omega arith in
    let power : 10 ^ (9 + digits_count counts) ≡ 10 ^ 9 * 10 ^ digits_count counts = pow-add 10 9 (digits_count counts) in
    let group : ℕ = big_number 4 (drop place s) in
    let rest : ℕ = groups_number counts (drop 4 (drop place s)) in
    rw (left, ← drop-drop 4 place s) (ap (λ (p : ℕ). number * p + (group * 10 ^ digits_count counts + rest)) power ∙ joined_by (10 ^ 9) (10 ^ digits_count counts) number group rest)

-- The last group.
pub number_end : (n i tail number : ℕ) (s : List ℕ) → n - i ≡ 0
    → number * 10 ^ digits_count (replicate (n - i) 9 ++ tail ∷ []) + groups_number (replicate (n - i) 9 ++ tail ∷ []) s ≡ number * 10 ^ tail + big_number (digits_len tail) s
number_end n i tail number s none =
    let last : tail + 0 ≡ tail = omega arith in
    let power : 10 ^ (tail + 0) ≡ 10 ^ tail = ap (λ (k : ℕ). 10 ^ k) last in
    let whole : number * 10 ^ (tail + 0) ≡ number * 10 ^ tail = ap (λ (k : ℕ). number * k) power in
    let one : big_number (digits_len tail) s * 1 ≡ big_number (digits_len tail) s = omega arith in
    rw none (omega (arith, whole, one))

-- Digits so far that are too many already.
pub number_over : (most number p rest : ℕ) → most ≤ number → 1 ≤ p → most ≤ number * p + rest
number_over most number p rest over some = omega (arith, over, le-mul_of_pos_right number some)

pub rest_count : (n tail : ℕ) → digits_count (replicate n 9 ++ tail ∷ []) ≡ 9 * n + tail
rest_count zero tail = omega arith
rest_count (suc n) tail = let ih = rest_count n tail in omega (arith, ih)

-- The groups of a decimal number have as many digits as its precision.
pub whole_count : (precision scale : ℕ) → scale ≤ precision → digits_count (groups precision scale) ≡ precision
whole_count precision scale within =
    let rest = rest_count ((precision - scale) / 9 + scale / 9) (scale % 9) in
    omega (arith, within, rest)

-- The number of groups that fit has at most as many digits as they have.
pub number_small : (counts s : List ℕ) → groups_fit counts s ≡ true → groups_number counts s < 10 ^ digits_count counts
number_small [] s fits = omega arith
number_small (count ∷ counts) s fits =
    let both = and_parts (nat_lt (big_number (digits_len count) s) (10 ^ count)) (groups_fit counts (drop (digits_len count) s)) fits in
    let first : big_number (digits_len count) s < 10 ^ count = ltb-true _ _ both.0 in
    let others = number_small counts (drop (digits_len count) s) both.1 in
    let group : ℕ = big_number (digits_len count) s in
    let power : ℕ = 10 ^ digits_count counts in
    let room : suc group * power ≤ 10 ^ count * power = mul-le-mul_right power first in
    let split : suc group * power ≡ group * power + power = suc-mul group power in
    rw (pow-add 10 count (digits_count counts)) (omega (arith, others, room, split))

-- 38 digits are below 2^127.
pub few_digits : (precision scale : ℕ) (s : List ℕ) → precision ≤ 38 → scale ≤ precision → is_decimal_bytes precision scale s ≡ true → decimal_number precision scale s < 2 ^ 127
few_digits precision scale s few within fits =
    let small = number_small (groups precision scale) (magnitude s) fits in
    let count : 10 ^ digits_count (groups precision scale) ≡ 10 ^ precision = ap (λ (k : ℕ). 10 ^ k) (whole_count precision scale within) in
    let most : 10 ^ precision ≤ 10 ^ 38 = pow-le-pow_right (omega arith) few in
    omega (arith, small, count, most)

pub power_some : (k : ℕ) → 1 ≤ 10 ^ k
power_some k = one-le-pow k 10 (omega arith)
