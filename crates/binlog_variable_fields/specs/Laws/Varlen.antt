-- Variable-length integers: reading keeps to their grammar.
use Rattle.std.proofs.Common.{ℕ, zero, suc, Bool, true, false, cond, ◌≡◌, refl, ◌-◌, ◌<◌, arith, inl, inr, ◌%◌, ◌^◌, eqb, ltb, ◌≤◌, ap, ◌∙◌, sym, ◌+◌, ◌*◌, ◌/◌, List, ◌++◌, Ok, ◌∷◌, subst, []}
use Rattle.std.proofs.lemmas.Bool.{cases_lt, le-ltb, eqb-true, eq-eqb, lt-ltb, ltb-true}
use Rattle.std.specs.Int.{w8, trailing_ones}
use Rattle.std.proofs.lemmas.Nat.{pow-add, mod_low, mod-pow-add, pow_pos, mod_below, shr_high, shr_below, shr_split}
use Rattle.std.proofs.Math.Nat.{pow-succ', mul-le-mul_right}
use lib.Count.{count_trailing_zeros}
use Rattle.byteorder.specs.Endian.{little_bytes}
use Rattle.binlog_wire.specs.Laws.Numbers.{keeps_number}
use Rattle.binlog_wire.specs.Reading.{◌>>=◌}
use Rattle.binlog_wire.specs.Fields.{IsBytes, number_at}
use Rattle.binlog_wire.specs.Laws.{bind_ok, KeepsTo}
use Rattle.binlog_variable_fields.specs.Varlen.{varlen_at, IsVarlen}

-- ---- the bits of one byte, by computation over all bytes

abbrev all_below : ℕ → (ℕ → Bool) → Bool
all_below zero p = true
all_below (suc n) p = cond (p n) (all_below n p) false

both : (a b : Bool) → cond a b false ≡ true → (a ≡ true) × (b ≡ true)
both true b h = (refl, h)
both false b h = absurd cc

all_below-at : (n : ℕ) (p : ℕ → Bool) → all_below n p ≡ true → (i : ℕ) → i < n → p i ≡ true
all_below-at zero p h i lt = absurd (omega arith)
all_below-at (suc n) p h i lt =
    let here = both (p n) (all_below n p) h in
    elim (cases_lt i n) [
      | inl below ↦ all_below-at n p here.1 i below
      | inr above ↦ let e : i ≡ n = omega arith in rw e here.0
    ]

-- The low j + 1 bits are a zero and j ones.
abbrev has_low : ℕ → ℕ → Bool
has_low b j = eqb (b % 2 ^ suc j) (2 ^ j - 1)

abbrev agrees : Bool → Bool → Bool
agrees a b = cond a b (cond b false true)

table : all_below 256 (λ b. all_below 8 (λ j. agrees (has_low b j) (eqb (trailing_ones w8 b) j))) ≡ true
unfolding count_trailing_zeros
table = refl

top : all_below 255 (λ b. ltb (trailing_ones w8 b) 8) ≡ true
unfolding count_trailing_zeros
top = refl

agree : (a b : Bool) → agrees a b ≡ true → a ≡ b
agree true true h = refl
agree true false h = absurd cc
agree false true h = absurd cc
agree false false h = refl

-- A byte has a zero and j ones as its low bits exactly where it has j trailing ones.
low_bits : (b j : ℕ) → b < 256 → j < 8 → has_low b j ≡ eqb (trailing_ones w8 b) j
low_bits b j hb hj =
    agree (has_low b j) (eqb (trailing_ones w8 b) j)
    (all_below-at 8 (λ j. agrees (has_low b j) (eqb (trailing_ones w8 b) j))
    (all_below-at 256 (λ b. all_below 8 (λ j. agrees (has_low b j) (eqb (trailing_ones w8 b) j))) table b hb) j hj)

all_ones : (b : ℕ) → b < 256 → ltb (trailing_ones w8 b) 8 ≡ false → b ≡ 255
all_ones b hb h =
    elim (cases_lt b 255) [
      | inl below ↦ absurd (let t = all_below-at 255 (λ b. ltb (trailing_ones w8 b) 8) top b below in cc)
      | inr above ↦ omega arith
    ]

pub eight_ones : trailing_ones w8 255 ≡ 8
unfolding count_trailing_zeros
eight_ones = refl

-- Only 255 has as many trailing ones as bits.
pub ones_most : (b : ℕ) → b < 256 → trailing_ones w8 b ≤ 8
ones_most b fits =
    elim (cases_lt (trailing_ones w8 b) 8) [
      | inl below ↦ omega arith
      | inr above ↦ let eight : trailing_ones w8 b ≡ 8 = ap (trailing_ones w8) (all_ones b fits (le-ltb _ _ above)) ∙ eight_ones in omega (arith, eight)
    ]

pub ones_all : (b : ℕ) → b < 256 → 8 ≤ trailing_ones w8 b → b ≡ 255
ones_all b fits above = all_ones b fits (le-ltb _ _ above)

pub ones_are : (b j : ℕ) → b < 256 → j < 8 → b % 2 ^ suc j ≡ 2 ^ j - 1 → trailing_ones w8 b ≡ j
ones_are b j hb hj low = eqb-true _ _ (sym (low_bits b j hb hj) ∙ eq-eqb _ _ low)

-- ---- from bits to numbers

pub pow256 : (n : ℕ) → 256 ^ n ≡ 2 ^ (7 * n + n)
pow256 zero = refl
pow256 (suc n) =
    let e : 7 * suc n + suc n ≡ 8 + (7 * n + n) = omega arith in
    rw (pow-succ' 256 n, pow256 n, e, pow-add 2 8 (7 * n + n)) refl

-- The low bits of a number are those of its low byte.
low_of_byte : (x j : ℕ) → j < 8 → x % 256 % 2 ^ suc j ≡ x % 2 ^ suc j
low_of_byte x j h =
    let k : 8 ≡ (7 - j) + suc j = omega arith in
    let split : x % 2 ^ 8 ≡ (x / 2 ^ suc j % 2 ^ (7 - j)) * 2 ^ suc j + x % 2 ^ suc j = ap (λ (e : ℕ). x % 2 ^ e) k ∙ mod-pow-add x (7 - j) (suc j) in
    ap (λ (y : ℕ). y % 2 ^ suc j) split ∙ mod_low (x / 2 ^ suc j % 2 ^ (7 - j)) (suc j) (x % 2 ^ suc j) (mod_below x (2 ^ suc j) (pow_pos (suc j)))

-- The number that k bytes hold, from the encoded value, and back.
pub held : (n j : ℕ) → n < 2 ^ (7 * suc j) → n * 2 ^ suc j + 2 ^ suc j ≤ 256 ^ suc j
held n j h =
    let step : suc n * 2 ^ suc j ≤ 2 ^ (7 * suc j) * 2 ^ suc j = mul-le-mul_right (2 ^ suc j) (omega arith) in
    rw (pow256 (suc j), pow-add 2 (7 * suc j) (suc j)) (omega arith)

-- The number that j + 1 bytes hold.
abbrev held_number : ℕ → ℕ → ℕ
held_number n j = n * 2 ^ suc j + 2 ^ (suc j - 1) - 1

held_is : (n j : ℕ) → held_number n j ≡ n * 2 ^ suc j + (2 ^ j - 1)
held_is n j =
    let e : suc j - 1 ≡ j = omega arith in
    let some : 0 < 2 ^ j = pow_pos j in
    rw e (omega arith)

short_again : (j n : ℕ) (r : List ℕ) → j < 8 → n < 2 ^ (7 * suc j) → varlen_at (little_bytes (suc j) (n * 2 ^ suc j + (2 ^ j - 1)) ++ r) ≡ Ok (n, r)
short_again j n r h small =
    let x : ℕ = n * 2 ^ suc j + (2 ^ j - 1) in
    let some : 0 < 2 ^ j = pow_pos j in
    let two : 2 ^ suc j ≡ 2 * 2 ^ j = pow-succ' 2 j in
    let low : 2 ^ j - 1 < 2 ^ suc j = omega arith in
    let byte : x % 256 < 256 = omega arith in
    let bits : x % 256 % 2 ^ suc j ≡ 2 ^ j - 1 = low_of_byte x j h ∙ mod_low n (suc j) (2 ^ j - 1) low in
    let count : trailing_ones w8 (x % 256) ≡ j = ones_are (x % 256) j byte h bits in
    let fits : x < 256 ^ suc j = omega (arith, held n j small) in
    rw (count, lt-ltb j 8 h, (keeps_number (suc j)).complete (little_bytes (suc j) x ++ r) x r (fits, refl), shr_high n (suc j) (2 ^ j - 1) low) refl

complete : (s : List ℕ) (n : ℕ) (r : List ℕ) → IsVarlen s n r → varlen_at s ≡ Ok (n, r)
unfolding count_trailing_zeros
complete s n r (inl (zero, low, high, small, e)) = absurd (omega arith)
complete s n r (inl (suc j, low, high, small, e)) =
    rw (e, held_is n j) (short_again j n r (omega arith) small)
complete s n r (inr (m, e, h)) =
    rw e ((keeps_number 8).complete m n r h)

sound_short : (b : ℕ) (s : List ℕ) (x : ℕ × List ℕ) (j : ℕ) → IsBytes (b ∷ s) → j < 8 → trailing_ones w8 b ≡ j
    → (number_at (suc j) (b ∷ s) >>= λ y. Ok (y.0 / 2 ^ suc j, y.1)) ≡ Ok x → IsVarlen (b ∷ s) x.0 x.1 × IsBytes x.1
sound_short b s x j fits h count e =
    let a = bind_ok (number_at (suc j) (b ∷ s)) (λ y. Ok (y.0 / 2 ^ suc j, y.1)) x e in
    let p = (keeps_number (suc j)).sound (b ∷ s) a.0 fits a.1 in
    let y : ℕ = a.0.0 in
    let head : b ≡ y % 256 = cc (p.0.1) in
    let byte : b < 256 = fits 0 in
    let bits : b % 2 ^ suc j ≡ 2 ^ j - 1 = eqb-true _ _ (low_bits b j byte h ∙ eq-eqb _ _ count) in
    let low : y % 2 ^ suc j ≡ 2 ^ j - 1 = sym (low_of_byte y j h) ∙ ap (λ (z : ℕ). z % 2 ^ suc j) (sym head) ∙ bits in
    let whole : y ≡ held_number (y / 2 ^ suc j) j = sym (shr_split y (suc j)) ∙ ap (λ (z : ℕ). y / 2 ^ suc j * 2 ^ suc j + z) low ∙ sym (held_is (y / 2 ^ suc j) j) in
    let bound : y < 2 ^ (7 * suc j + suc j) = rw (← pow256 (suc j)) p.0.0 in
    let same : ◌≡◌ {A = ℕ × List ℕ} (y / 2 ^ suc j, a.0.1) x = cc in
    subst (λ (z : ℕ × List ℕ). IsVarlen (b ∷ s) z.0 z.1 × IsBytes z.1) same
    (inl (suc j, omega arith, omega arith, shr_below y (7 * suc j) (suc j) bound, p.0.1 ∙ ap (λ (z : ℕ). little_bytes (suc j) z ++ a.0.1) whole), p.1)

sound_by : (b : ℕ) (s : List ℕ) (x : ℕ × List ℕ) (t : Bool) → IsBytes (b ∷ s) → ltb (trailing_ones w8 b) 8 ≡ t
    → cond t (number_at (suc (trailing_ones w8 b)) (b ∷ s) >>= λ y. Ok (y.0 / 2 ^ suc (trailing_ones w8 b), y.1)) (number_at 8 s) ≡ Ok x
    → IsVarlen (b ∷ s) x.0 x.1 × IsBytes x.1
sound_by b s x true fits h e = sound_short b s x (trailing_ones w8 b) fits (ltb-true _ _ h) refl e
sound_by b s x false fits h e =
    let p = (keeps_number 8).sound s x (λ i. fits (suc i)) e in
    let first : b ≡ 255 = all_ones b (fits 0) h in
    (inr (s, ap (λ (c : ℕ). c ∷ s) first, p.0), p.1)

sound : (s : List ℕ) (x : ℕ × List ℕ) → IsBytes s → varlen_at s ≡ Ok x → IsVarlen s x.0 x.1 × IsBytes x.1
sound [] x fits e = absurd cc
sound (b ∷ s) x fits e = sound_by b s x (ltb (trailing_ones w8 b) 8) fits refl e

pub keeps_varlen : KeepsTo IsVarlen varlen_at
keeps_varlen = record { sound = sound; complete = complete }
