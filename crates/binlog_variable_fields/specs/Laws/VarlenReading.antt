-- The number in an encoding of a given width, and the same number from eight bytes.
use Rattle.std.proofs.Common.{◌≡◌, ℕ, suc, ◌+◌, ◌-◌, ◌≤◌, inl, inr, true, false, ltb, List, [], ◌∷◌, length, get_or, drop, Ok, refl, ap, ◌∙◌, arith, ◌*◌, ◌/◌, take, ◌%◌, ◌^◌, sym, ◌<◌}
use Rattle.std.specs.Int.{w8, trailing_ones}
use Rattle.std.proofs.lemmas.Bool.{cases_lt, lt-ltb, le-ltb}
use Rattle.std.proofs.lemmas.List.{take_rest, append-nil}
use Rattle.std.proofs.Math.Nat.{div-one}
use Rattle.std.proofs.lemmas.Nat.{shl-shr, shr-shr, field_of}
use Rattle.byteorder.specs.Endian.{little_number, little_bytes}
use Rattle.byteorder.specs.Numbers.{little_from-take, little_from-bytes}
use Rattle.binlog_wire.specs.Fields.{IsBytes}
use Rattle.binlog_wire.specs.Laws.Numbers.{little_bytes-little_number}
use Rattle.binlog_variable_fields.specs.Varlen.{varlen_at, number_of}
use Rattle.binlog_variable_fields.specs.Laws.Varlen.{eight_ones, pow256}
use Rattle.binlog_variable_fields.specs.Laws.VarlenWriting.{take_little_bytes}

-- ---- the number in a given width

-- The trailing ones of the first byte give the width; nine bytes begin with 255.
pub varlen_whole : (s : List ℕ) (width : ℕ) → 1 ≤ length s → width ≡ trailing_ones w8 (get_or s 0 0) + 1 → (9 ≤ width → get_or s 0 0 ≡ 255) → width ≤ length s
    → varlen_at s ≡ Ok (number_of width s, drop width s)
varlen_whole [] width some is nine long = absurd (omega arith)
varlen_whole (a ∷ m) width some is nine long =
    elim (cases_lt width 9) [
      | inl below ↦
          let one : width ≡ suc (trailing_ones w8 a) = omega (arith, is) in
          let few : ltb (trailing_ones w8 a) 8 ≡ true = lt-ltb _ _ (omega (arith, is)) in
          let short : ltb (suc (trailing_ones w8 a)) 9 ≡ true = lt-ltb _ _ (omega (arith, is)) in
          let there : ltb (length (a ∷ m)) (suc (trailing_ones w8 a)) ≡ false = le-ltb _ _ (omega (arith, long, is)) in
          rw (one, few, short, there) refl
      | inr above ↦
          let all : a ≡ 255 = nine (omega arith) in
          let same : width ≡ 9 = is ∙ ap (λ (b : ℕ). trailing_ones w8 b + 1) all ∙ ap (λ (n : ℕ). n + 1) eight_ones in
          let there : ltb (length m) 8 ≡ false = le-ltb _ _ (omega (arith, long, same)) in
          rw (same, all, eight_ones, there) refl
    ]

-- Encodings of one byte, and of two.
pub varlen_one : (s : List ℕ) → 1 ≤ length s → trailing_ones w8 (get_or s 0 0) ≡ 0 → varlen_at s ≡ Ok (get_or s 0 0 / 2, drop 1 s)
varlen_one [] some is = absurd (omega arith)
varlen_one (a ∷ m) some is =
    let one : 1 ≡ trailing_ones w8 a + 1 = omega (arith, is) in
    let number : a + 256 * 0 ≡ a = omega arith in
    varlen_whole (a ∷ m) 1 some one (λ more. absurd (omega arith)) some ∙ ap (λ (n : ℕ). Ok (n / 2, m)) number

pub varlen_two : (s : List ℕ) → 2 ≤ length s → trailing_ones w8 (get_or s 0 0) ≡ 1 → varlen_at s ≡ Ok (little_number 2 s / 4, drop 2 s)
varlen_two s some is = varlen_whole s 2 (omega arith) (omega (arith, is)) (λ more. absurd (omega arith)) some

-- The result of reading, where the rest is taken by its length.
pub varlen_rest : (s t : List ℕ) (x : ℕ × ℕ) (number width : ℕ) → t ≡ s → x ≡ (number, width) → varlen_at s ≡ Ok (number, drop width s)
    → varlen_at s ≡ Ok (x.0, take (length t - x.1) (drop x.1 t))
varlen_rest s t x number width same is e =
    rw (is, same, take_rest s width) e

-- ---- the same number from eight bytes

low_number : (width : ℕ) (s : List ℕ) → IsBytes s → 8 ≤ length s → width ≤ 8 → little_number width s ≡ little_number 8 s % 256 ^ width
low_number width s fits enough most =
    let x : ℕ = little_number 8 s in
    let bytes : little_bytes 8 x ≡ take 8 s = little_bytes-little_number 8 s fits enough in
    let low : take width (little_bytes 8 x) ≡ little_bytes width x = take_little_bytes width 8 x most in
    sym (little_from-take 0 width 8 s (omega arith))
    ∙ ap (little_number width) (sym bytes)
    ∙ sym (little_from-take 0 width width (little_bytes 8 x) (omega arith))
    ∙ ap (little_number width) (low ∙ sym (append-nil (little_bytes width x)))
    ∙ little_from-bytes width 0 x []
    ∙ ap (λ (y : ℕ). y % 256 ^ width) (div-one x)

-- The bits above the number are shifted out, and then those of its mark.
shifted : (width x : ℕ) → 1 ≤ width → width ≤ 8 → x * 2 ^ (64 - 8 * width) % 2 ^ 64 / 2 ^ (64 - 7 * width) ≡ x % 256 ^ width / 2 ^ width
shifted width x some most =
    let above : ℕ = 64 - 8 * width in
    let all : 64 ≡ (7 * width + width) + above = omega arith in
    let both : 64 - 7 * width ≡ above + width = omega arith in
    ap (λ (n : ℕ). x * 2 ^ above % 2 ^ 64 / 2 ^ n) both
    ∙ sym (shr-shr (x * 2 ^ above % 2 ^ 64) above width)
    ∙ ap (λ (n : ℕ). x * 2 ^ above % 2 ^ n / 2 ^ above / 2 ^ width) all
    ∙ ap (λ (y : ℕ). y / 2 ^ width) (field_of (x * 2 ^ above) (7 * width + width) above ∙ ap (λ (y : ℕ). y % 2 ^ (7 * width + width)) (shl-shr x above))
    ∙ ap (λ (n : ℕ). x % n / 2 ^ width) (sym (pow256 width))

pub number_of_word : (width : ℕ) (s : List ℕ) → IsBytes s → 8 ≤ length s → 1 ≤ width → width < 9
    → little_number 8 s * 2 ^ (64 - 8 * width) % 2 ^ 64 / 2 ^ (64 - 7 * width) ≡ number_of width s
number_of_word width s fits enough some few =
    rw (lt-ltb width 9 few) (shifted width (little_number 8 s) some (omega arith) ∙ ap (λ (y : ℕ). y / 2 ^ width) (sym (low_number width s fits enough (omega arith))))

pub number_of_few : (width : ℕ) (s : List ℕ) → width < 9 → little_number width s / 2 ^ width ≡ number_of width s
number_of_few width s few = rw (lt-ltb width 9 few) refl
