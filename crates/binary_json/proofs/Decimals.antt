-- The groups of digits of decimal numbers.
use Rattle.std.proofs.Common.{◌≡◌, ℕ, zero, suc, ◌+◌, ◌-◌, ◌*◌, ◌^◌, ◌<◌, ◌≤◌, Bool, true, false, cond, List, [], ◌∷◌, ◌++◌, length, take, drop, map, replicate, get_or, refl, ap, add-one, drop-cons, arith}
use Rattle.std.specs.Prelude.{◌&&◌, nat_lt, nat_le}
use Rattle.std.proofs.lemmas.List.{drop-drop}
use Rattle.std.proofs.Math.Nat.{pow-succ', pow-le-pow_right}
use Rattle.binary_json.specs.Opaques.{digits_len, groups_len, magnitude, number_behind, groups_fit}

-- The number of bytes of groups of nine digits and one more group.
pub groups_count : (n tail : ℕ) → groups_len (replicate n 9 ++ tail ∷ []) ≡ 4 * n + digits_len tail
groups_count zero tail = omega arith
groups_count (suc n) tail = let ih = groups_count n tail in omega (arith, ih)

and_true : (b : Bool) → (b && true) ≡ b
and_true true = refl
and_true false = refl

-- One more group of nine digits fits, or doesn't.
pub fit_step : (n i tail place : ℕ) (s : List ℕ) → i < n → groups_fit (replicate (n - i) 9 ++ tail ∷ []) (drop place s)
    ≡ (nat_lt (number_behind 0 (take 4 (drop place s))) (10 ^ 9) && groups_fit (replicate (n - (i + 1)) 9 ++ tail ∷ []) (drop (place + 4) s))
fit_step n i tail place s less =
    let left : n - i ≡ suc (n - (i + 1)) = omega arith in
    rw (left, ← drop-drop 4 place s) refl

-- The last group fits, or doesn't.
pub fit_end : (n i tail : ℕ) (s : List ℕ) → n - i ≡ 0 → groups_fit (replicate (n - i) 9 ++ tail ∷ []) s ≡ nat_lt (number_behind 0 (take (digits_len tail) s)) (10 ^ tail)
fit_end n i tail s none = rw none (and_true (nat_lt (number_behind 0 (take (digits_len tail) s)) (10 ^ tail)))

-- A byte without the sign, by its index.
abbrev pub adjusted : ℕ → Bool → ℕ → ℕ
adjusted zero true b = b - 128
adjusted zero false b = 127 - b
adjusted (suc i) true b = b
adjusted (suc i) false b = 255 - b

map_at : (i : ℕ) (s : List ℕ) → i < length s → get_or (map (λ c. 255 - c) s) i 0 ≡ 255 - get_or s i 0
map_at i [] less = absurd (omega arith)
map_at zero (b ∷ s) less = refl
map_at (suc i) (b ∷ s) less = map_at i s (omega arith)

by_sign : (t : Bool) (b i : ℕ) (s : List ℕ) → i < suc (length s) → get_or (cond t ((b - 128) ∷ s) ((127 - b) ∷ map (λ c. 255 - c) s)) i 0 ≡ adjusted i t (get_or (b ∷ s) i 0)
by_sign true b zero s less = refl
by_sign false b zero s less = refl
by_sign true b (suc i) s less = refl
by_sign false b (suc i) s less = map_at i s (omega arith)

pub magnitude_at : (s : List ℕ) (i : ℕ) → i < length s → get_or (magnitude s) i 0 ≡ adjusted i (nat_le 128 (get_or s 0 0)) (get_or s i 0)
magnitude_at [] i less = absurd (omega arith)
magnitude_at (b ∷ s) i less = by_sign (nat_le 128 b) b i s less

length-map : (s : List ℕ) → length (map (λ c. 255 - c) s) ≡ length s
length-map [] = refl
length-map (b ∷ s) = ap suc (length-map s)

by_sign-len : (t : Bool) (b : ℕ) (s : List ℕ) → length (cond t ((b - 128) ∷ s) ((127 - b) ∷ map (λ c. 255 - c) s)) ≡ suc (length s)
by_sign-len true b s = refl
by_sign-len false b s = ap suc (length-map s)

magnitude_len : (s : List ℕ) → length (magnitude s) ≡ length s
magnitude_len [] = refl
magnitude_len (b ∷ s) = by_sign-len (nat_le 128 b) b s

-- One more byte of a group.
pub byte_taken : (number i n : ℕ) (s : List ℕ) → i < length s → number_behind number (take (suc n) (drop i (magnitude s))) ≡ number_behind (256 * number + get_or (magnitude s) i 0) (take n (drop (i + 1) (magnitude s)))
byte_taken number i n s less =
    let within : i < length (magnitude s) = omega (arith, magnitude_len s) in
    rw (drop-cons (magnitude s) i 0, add-one) refl

pub byte_below : (number k b : ℕ) → number < 256 ^ k → b < 256 → 256 * number + b < 256 ^ suc k
byte_below number k b less byte = let p = pow-succ' 256 k in omega (arith, p)

pub three_below : (number k : ℕ) → number < 256 ^ k → k ≤ 3 → number < 16777216
three_below number k less few = let p : 256 ^ k ≤ 16777216 = pow-le-pow_right {n = 256} (omega arith) {i = k} {j = 3} few in omega (arith, p)
