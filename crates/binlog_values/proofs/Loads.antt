-- Numbers of a few bytes, by one load of eight.
use Rattle.std.proofs.Common.{◌≡◌, ℕ, zero, suc, ◌+◌, ◌-◌, ◌*◌, ◌/◌, ◌%◌, ◌^◌, ◌<◌, ◌≤◌, List, length, take, drop, refl, sym, ap, ◌∙◌, arith}
use Rattle.std.proofs.Math.Nat.{mul_assoc, mul_comm, add-mul, pow-succ', one-le-pow, mul-lt-mul_of_pos_right}
use Rattle.std.proofs.lemmas.Nat.{div-mul-add, mod-mul-add, pow-add}
use Rattle.std.specs.Prelude.{slice_index}
use Rattle.byteorder.specs.Endian.{little_from, little_number, big_from, big_number}
use Rattle.byteorder.specs.Numbers.{little_from-lt, big_from-lt, big_from-take}
use Rattle.binlog_wire.specs.Fields.{IsBytes}

-- ---- little-endian

-- The number of the first bytes, and of those behind them.
little_split : (i k m : ℕ) (s : List ℕ) → little_from i (k + m) s ≡ little_from i k s + little_from (i + k) m s * 256 ^ k
little_split i zero m s =
    let none : zero + m ≡ m = omega arith in
    let here : i + zero ≡ i = omega arith in
    rw (none, here) (omega arith)
little_split i (suc k) m s =
    let more : suc k + m ≡ suc (k + m) = omega arith in
    let behind : i + suc k ≡ suc i + k = omega arith in
    let ih = little_split (suc i) k m s in
    let rest : ℕ = little_from (suc i + k) m s in
    let power : rest * 256 ^ suc k ≡ 256 * (rest * 256 ^ k) = ap (λ (p : ℕ). rest * p) (pow-succ' 256 k) ∙ sym (mul_assoc rest 256 (256 ^ k)) ∙ ap (λ (r : ℕ). r * 256 ^ k) (mul_comm rest 256) ∙ mul_assoc 256 rest (256 ^ k) in
    rw (more, behind) (omega (arith, ih, power))

shifted_by : (a b p q : ℕ) → a < p → 0 < q → (a + b * p) * q % (p * q) / q ≡ a
shifted_by a b p q less some =
    let all : (a + b * p) * q ≡ b * (p * q) + a * q = add-mul a (b * p) q ∙ ap (λ (r : ℕ). a * q + r) (mul_assoc b p q) ∙ omega arith in
    let small : a * q < p * q = mul-lt-mul_of_pos_right less some in
    let left : (a + b * p) * q % (p * q) ≡ a * q = ap (λ (r : ℕ). r % (p * q)) all ∙ mod-mul-add b (p * q) (a * q) small in
    let none : a * q + 0 ≡ a * q = omega arith in
    ap (λ (r : ℕ). r / q) (left ∙ sym none) ∙ div-mul-add a q 0 some

-- The bytes behind the number are shifted out.
pub little_shifted : (len m : ℕ) (s : List ℕ) → IsBytes s → little_from 0 (len + m) s * 256 ^ m % 256 ^ (len + m) / 256 ^ m ≡ little_number len s
little_shifted len m s bytes =
    rw (little_split 0 len m s, pow-add 256 len m) (shifted_by (little_from 0 len s) (little_from (0 + len) m s) (256 ^ len) (256 ^ m) (little_from-lt 0 len s bytes) (one-le-pow m 256 (omega arith)))

-- ---- most significant byte first

big_split : (i k m : ℕ) (s : List ℕ) → big_from i (k + m) s ≡ big_from i k s * 256 ^ m + big_from (i + k) m s
big_split i zero m s =
    let none : zero + m ≡ m = omega arith in
    let here : i + zero ≡ i = omega arith in
    rw (none, here) (omega arith)
big_split i (suc k) m s =
    let more : suc k + m ≡ suc (k + m) = omega arith in
    let behind : i + suc k ≡ suc i + k = omega arith in
    let ih = big_split (suc i) k m s in
    let first : ℕ = slice_index s i in
    let power : first * 256 ^ (k + m) ≡ first * 256 ^ k * 256 ^ m = ap (λ (p : ℕ). first * p) (pow-add 256 k m) ∙ sym (mul_assoc first (256 ^ k) (256 ^ m)) in
    let sum : (first * 256 ^ k + big_from (suc i) k s) * 256 ^ m ≡ first * 256 ^ k * 256 ^ m + big_from (suc i) k s * 256 ^ m = add-mul (first * 256 ^ k) (big_from (suc i) k s) (256 ^ m) in
    rw (more, behind) (omega (arith, ih, power, sum))

pub big_shifted : (len m : ℕ) (s : List ℕ) → IsBytes s → big_from 0 (len + m) s / 256 ^ m ≡ big_number len s
big_shifted len m s bytes = rw (big_split 0 len m s) (div-mul-add (big_from 0 len s) (256 ^ m) (big_from (0 + len) m s) (big_from-lt (0 + len) m s bytes))

-- ---- the shifts

pub shift_power : (m : ℕ) → 2 ^ (8 * m) ≡ 256 ^ m
shift_power zero = refl
shift_power (suc m) =
    let bits : 8 * suc m ≡ 8 + 8 * m = omega arith in
    rw bits (pow-add 2 8 (8 * m) ∙ ap (λ (p : ℕ). 256 * p) (shift_power m) ∙ sym (pow-succ' 256 m))

-- A load of eight bytes, and shifts by the bytes that aren't wanted.
pub little_loaded : (len x : ℕ) (s : List ℕ) → IsBytes s → len ≤ 8 → x ≡ little_number 8 s
    → x * 2 ^ (8 * (8 - len)) % 18446744073709551616 / 2 ^ (8 * (8 - len)) ≡ little_number len s
little_loaded len x s bytes most is =
    let count : len + (8 - len) ≡ 8 = omega arith in
    let all : little_from 0 (len + (8 - len)) s ≡ x = ap (λ (n : ℕ). little_from 0 n s) count ∙ sym is in
    let whole : 256 ^ (len + (8 - len)) ≡ 18446744073709551616 = ap (λ (n : ℕ). 256 ^ n) count in
    rw (shift_power (8 - len), ← all, ← whole) (little_shifted len (8 - len) s bytes)

pub big_loaded : (len x : ℕ) (s : List ℕ) → IsBytes s → len ≤ 8 → x ≡ big_number 8 s → x / 2 ^ (8 * (8 - len)) ≡ big_number len s
big_loaded len x s bytes most is =
    let count : len + (8 - len) ≡ 8 = omega arith in
    let all : big_from 0 (len + (8 - len)) s ≡ x = ap (λ (n : ℕ). big_from 0 n s) count ∙ sym is in
    rw (shift_power (8 - len), ← all) (big_shifted len (8 - len) s bytes)

pub little_small : (len : ℕ) (s : List ℕ) → IsBytes s → little_number len s < 256 ^ len
little_small len s bytes = little_from-lt 0 len s bytes

-- ---- the first bytes of a slice

-- The number of the first bytes behind a place, of as many as are there.
pub big_front : (at len n : ℕ) (s : List ℕ) (number : ℕ) → number ≡ big_number n (take (length s - at) (drop at s)) → len ≡ n → at + len ≤ length s → number ≡ big_number len (drop at s)
big_front at len n s number is same room =
    let within : 0 + n ≤ length s - at = omega arith in
    rw same (is ∙ big_from-take 0 n (length s - at) (drop at s) within)
