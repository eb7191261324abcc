-- The null bits of columns as one number.
use Rattle.std.proofs.Common.{◌≡◌, ℕ, zero, suc, ◌+◌, ◌-◌, ◌*◌, ◌/◌, ◌%◌, ◌^◌, ◌<◌, ◌≤◌, Bool, true, false, List, [], ◌∷◌, length, get_or, refl, sym, ap, ◌∙◌, arith}
use Rattle.std.proofs.Math.Nat.{mul_assoc, mul_comm, pow-succ'}
use Rattle.std.proofs.lemmas.Bool.{lt-ltb}
use Rattle.std.proofs.lemmas.Bool.Decides.{nat_tests}
use Rattle.std.proofs.lemmas.Nat.{shr-shr}
use Rattle.std.proofs.lemmas.Nat.Bits.{bit_at-zero, bit_at_lowest, bit_at-suc}
use Rattle.std.specs.Int.{bit_at}
use Rattle.std.specs.Prelude.{◌==◌, nat_lt}
use Rattle.byteorder.specs.Endian.{little_number}
use Rattle.byteorder.specs.Numbers.{little_from-cons}
use Rattle.binlog_wire.specs.Bits.{bit_of}
use Rattle.binlog_wire.specs.Fields.{IsBytes}
use Rattle.binlog_rows.specs.Columns.{Bitmap}
use Rattle.binlog_images.specs.Bits.{is_set}
use Rattle.binlog_undo.specs.NullWords.{HoldsNulls}

-- ---- the bits of a number

doubled : (hi m : ℕ) → hi * 2 ^ suc m ≡ 2 * (hi * 2 ^ m)
doubled hi m = ap (λ (p : ℕ). hi * p) (pow-succ' 2 m) ∙ sym (mul_assoc hi 2 (2 ^ m)) ∙ ap (λ (r : ℕ). r * 2 ^ m) (mul_comm hi 2) ∙ mul_assoc 2 hi (2 ^ m)

-- A bit below a place, whatever stands from that place on.
low_bit : (hi lo m k : ℕ) → k < m → bit_at (hi * 2 ^ m + lo) k ≡ bit_at lo k
low_bit hi lo zero k less = absurd (omega (arith, less))
low_bit hi lo (suc m) zero less = omega (arith, bit_at_lowest (hi * 2 ^ suc m + lo), bit_at_lowest lo, doubled hi m)
low_bit hi lo (suc m) (suc k) less =
    let half : (hi * 2 ^ suc m + lo) / 2 ≡ hi * 2 ^ m + lo / 2 = omega (arith, doubled hi m) in
    bit_at-suc (hi * 2 ^ suc m + lo) k ∙ ap (λ (n : ℕ). bit_at n k) half ∙ low_bit hi (lo / 2) m k (omega (arith, less)) ∙ sym (bit_at-suc lo k)

-- A bit behind the first byte.
high_bit : (byte behind j : ℕ) → byte < 256 → bit_at (behind * 256 + byte) (8 + j) ≡ bit_at behind j
high_bit byte behind j small =
    let rest : (behind * 256 + byte) / 256 ≡ behind = omega (arith, small) in
    ap (λ (n : ℕ). n % 2) (sym (shr-shr (behind * 256 + byte) 8 j)) ∙ ap (λ (n : ℕ). n / 2 ^ j % 2) rest

by_place : (byte : ℕ) (s : List ℕ) (k : ℕ) (below : Bool) → nat_lt k 8 ≡ below → IsBytes (byte ∷ s)
    → ((j : ℕ) → bit_at (little_number (length s) s) j ≡ bit_at (get_or s (j / 8) 0) (j % 8))
    → bit_at (little_number (length s) s * 256 + byte) k ≡ bit_at (get_or (byte ∷ s) (k / 8) 0) (k % 8)
by_place byte s k true is bytes behind =
    let less : k < 8 = grind (arith, nat_tests) in
    let first : k / 8 ≡ 0 = omega (arith, less) in
    let same : k % 8 ≡ k = omega (arith, less) in
    rw (first, same) (low_bit (little_number (length s) s) byte 8 k less)
by_place byte s k false is bytes behind =
    let most : 8 ≤ k = grind (arith, nat_tests) in
    let j : ℕ = k - 8 in
    let place : k ≡ 8 + j = omega (arith, most) in
    let next : k / 8 ≡ suc (j / 8) = omega (arith, most) in
    let same : k % 8 ≡ j % 8 = omega (arith, most) in
    ap (λ (n : ℕ). bit_at (little_number (length s) s * 256 + byte) n) place
    ∙ high_bit byte (little_number (length s) s) j (bytes zero)
    ∙ behind j
    ∙ ap (λ (n : ℕ). bit_at (get_or (byte ∷ s) n 0) (j % 8)) (sym next)
    ∙ ap (λ (n : ℕ). bit_at (get_or (byte ∷ s) (k / 8) 0) n) (sym same)

-- The bits of bytes are those of their number.
bit_of_number : (s : List ℕ) → IsBytes s → (k : ℕ) → bit_at (little_number (length s) s) k ≡ bit_at (get_or s (k / 8) 0) (k % 8)
bit_of_number [] bytes k = bit_at-zero k ∙ sym (bit_at-zero (k % 8))
bit_of_number (byte ∷ s) bytes k =
    let split : little_number (length (byte ∷ s)) (byte ∷ s) ≡ little_number (length s) s * 256 + byte = omega (arith, little_from-cons 0 (length s) byte s) in
    ap (λ (n : ℕ). bit_at n k) split ∙ by_place byte s k (nat_lt k 8) refl bytes (bit_of_number s (λ i. bytes (suc i)))

-- ---- the null bits

set_as : (len : ℕ) (s : List ℕ) (word k : ℕ) → nat_lt k len ≡ true → bit_of s k ≡ (bit_at word k == 1) → is_set (len, s) k ≡ (bit_at word k == 1)
set_as len s word k is same = rw is same

-- The number of the bytes holds all bits.
pub word_holds : (bits : Bitmap) (number : ℕ) → IsBytes bits.1 → number ≡ little_number (length bits.1) bits.1 → HoldsNulls bits 0 number
word_holds bits number bytes is k less =
    let first : 0 + k ≡ k = omega arith in
    let below : nat_lt k bits.0 ≡ true = lt-ltb k bits.0 (omega (arith, less)) in
    let same : bit_at number k ≡ bit_at (get_or bits.1 (k / 8) 0) (k % 8) = ap (λ (n : ℕ). bit_at n k) is ∙ bit_of_number bits.1 bytes k in
    ap (is_set bits) first ∙ set_as bits.0 bits.1 number k below (ap (λ (n : ℕ). n == 1) (sym same))

-- The bit of the next column.
pub first_null : (nulls : Bitmap) (place word : ℕ) → HoldsNulls nulls place word → place < nulls.0 → (word % 2 == 1) ≡ is_set nulls place
first_null nulls place word holds less =
    let here : place + 0 ≡ place = omega arith in
    ap (λ (n : ℕ). n == 1) (sym (bit_at_lowest word)) ∙ sym (holds 0 (omega (arith, less))) ∙ ap (is_set nulls) here

-- The bits behind it.
pub next_nulls : (nulls : Bitmap) (place word : ℕ) → HoldsNulls nulls place word → HoldsNulls nulls (place + 1) (word / 2)
next_nulls nulls place word holds k less =
    let behind : place + 1 + k ≡ place + suc k = omega arith in
    ap (is_set nulls) behind ∙ holds (suc k) (omega (arith, less)) ∙ ap (λ (n : ℕ). n == 1) (bit_at-suc word k)
