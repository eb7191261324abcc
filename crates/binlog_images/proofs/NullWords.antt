-- The NULL bits of at most 64 columns as one number.
use Rattle.std.proofs.Common.{◌≡◌, ℕ, zero, suc, ◌+◌, ◌-◌, ◌*◌, ◌/◌, ◌%◌, ◌^◌, ◌<◌, ◌≤◌, Bool, true, false, List, [], ◌∷◌, length, get_or, option_map, Option, None, Some, refl, sym, ap, subst, ◌∙◌, arith}
use Rattle.std.proofs.Math.Nat.{mod-lt, mul_assoc, mul_comm, one-le-pow, pow-succ'}
use Rattle.std.proofs.lemmas.Bool.Decides.{nat_tests}
use Rattle.std.proofs.lemmas.Nat.{div-add-mod', one_shl, shr-shr}
use Rattle.std.proofs.lemmas.Nat.Bits.{bit_at-zero, bit_at_lowest, bit_at-suc, bit_at_above}
use Rattle.std.specs.Int.{bit_at}
use Rattle.std.specs.Prelude.{◌==◌, nat_lt}
use Rattle.byteorder.specs.Endian.{little_number}
use Rattle.byteorder.specs.Numbers.{little_from-cons}
use Rattle.binlog_wire.specs.Bits.{bit_of}
use Rattle.binlog_wire.specs.Fields.{IsBytes}
use Rattle.binlog_rows.specs.Columns.{Bitmap}
use Rattle.binlog_images.specs.Bits.{is_set}
use Rattle.binlog_images.specs.NullWords.{HoldsNulls}

doubled : (hi m : ℕ) → hi * 2 ^ suc m ≡ 2 * (hi * 2 ^ m)
doubled hi m = ap (λ (p : ℕ). hi * p) (pow-succ' 2 m) ∙ sym (mul_assoc hi 2 (2 ^ m)) ∙ ap (λ (r : ℕ). r * 2 ^ m) (mul_comm hi 2) ∙ mul_assoc 2 hi (2 ^ m)

-- A bit below a place, whatever stands from that place on.
low_bit : (hi lo m k : ℕ) → k < m → bit_at (hi * 2 ^ m + lo) k ≡ bit_at lo k
low_bit hi lo zero k less = absurd (omega (arith, less))
low_bit hi lo (suc m) zero less = omega (arith, bit_at_lowest (hi * 2 ^ suc m + lo), bit_at_lowest lo, doubled hi m)
low_bit hi lo (suc m) (suc k) less =
    let half : (hi * 2 ^ suc m + lo) / 2 ≡ hi * 2 ^ m + lo / 2 = omega (arith, doubled hi m) in
    bit_at-suc (hi * 2 ^ suc m + lo) k ∙ ap (λ (n : ℕ). bit_at n k) half ∙ low_bit hi (lo / 2) m k (omega (arith, less)) ∙ sym (bit_at-suc lo k)

-- A bit behind the first byte.
high_bit : (byte behind j : ℕ) → byte < 256 → bit_at (behind * 256 + byte) (8 + j) ≡ bit_at behind j
high_bit byte behind j small =
    let rest : (behind * 256 + byte) / 256 ≡ behind = omega (arith, small) in
    ap (λ (n : ℕ). n % 2) (sym (shr-shr (behind * 256 + byte) 8 j)) ∙ ap (λ (n : ℕ). n / 2 ^ j % 2) rest

by_place : (byte : ℕ) (s : List ℕ) (k : ℕ) (below : Bool) → nat_lt k 8 ≡ below → IsBytes (byte ∷ s)
    → ((j : ℕ) → bit_at (little_number (length s) s) j ≡ bit_at (get_or s (j / 8) 0) (j % 8))
    → bit_at (little_number (length s) s * 256 + byte) k ≡ bit_at (get_or (byte ∷ s) (k / 8) 0) (k % 8)
by_place byte s k true is bytes behind =
    let less : k < 8 = grind (arith, nat_tests) in
    let first : k / 8 ≡ 0 = omega (arith, less) in
    let same : k % 8 ≡ k = omega (arith, less) in
    rw (first, same) (low_bit (little_number (length s) s) byte 8 k less)
by_place byte s k false is bytes behind =
    let most : 8 ≤ k = grind (arith, nat_tests) in
    let j : ℕ = k - 8 in
    let place : k ≡ 8 + j = omega (arith, most) in
    let next : k / 8 ≡ suc (j / 8) = omega (arith, most) in
    let same : k % 8 ≡ j % 8 = omega (arith, most) in
    ap (λ (n : ℕ). bit_at (little_number (length s) s * 256 + byte) n) place
    ∙ high_bit byte (little_number (length s) s) j (bytes zero)
    ∙ behind j
    ∙ ap (λ (n : ℕ). bit_at (get_or (byte ∷ s) n 0) (j % 8)) (sym next)
    ∙ ap (λ (n : ℕ). bit_at (get_or (byte ∷ s) (k / 8) 0) n) (sym same)

-- The bits of bytes are those of their number.
bit_of_number : (s : List ℕ) → IsBytes s → (k : ℕ) → bit_at (little_number (length s) s) k ≡ bit_at (get_or s (k / 8) 0) (k % 8)
bit_of_number [] bytes k = bit_at-zero k ∙ sym (bit_at-zero (k % 8))
bit_of_number (byte ∷ s) bytes k =
    let split : little_number (length (byte ∷ s)) (byte ∷ s) ≡ little_number (length s) s * 256 + byte = omega (arith, little_from-cons 0 (length s) byte s) in
    ap (λ (n : ℕ). bit_at n k) split ∙ by_place byte s k (nat_lt k 8) refl bytes (bit_of_number s (λ i. bytes (suc i)))

word_by : (len : ℕ) (s : List ℕ) (word k : ℕ) (below : Bool) → nat_lt k len ≡ below → IsBytes s → word < 2 ^ len
    → (k < len → bit_at word k ≡ bit_at (little_number (length s) s) k) → is_set (len, s) k ≡ (bit_at word k == 1)
word_by len s word k true is bytes small kept =
    let less : k < len = grind (arith, nat_tests) in
    let same : bit_of s k ≡ (bit_at word k == 1) = ap (λ (n : ℕ). n == 1) (sym (kept less ∙ bit_of_number s bytes k)) in
    rw is same
word_by len s word k false is bytes small kept =
    let most : len ≤ k = grind (arith, nat_tests) in
    let none : (bit_at word k == 1) ≡ false = ap (λ (n : ℕ). n == 1) (bit_at_above word len k small most) in
    rw (is, none) refl

-- The same, from the first bit on.
from_first : (bits : Bitmap) (number : ℕ) → ((k : ℕ) → is_set bits k ≡ (bit_at number k == 1)) → HoldsNulls (Some number) bits 0
from_first bits number each word is k =
    let first : 0 + k ≡ k = omega arith in
    let same : number ≡ word = cc in
    ap (is_set bits) first ∙ each k ∙ ap (λ (n : ℕ). bit_at n k == 1) same

-- All bits of the bytes belong to columns.
pub whole_word : (bits : Bitmap) (number : ℕ) → IsBytes bits.1 → number ≡ little_number (length bits.1) bits.1 → number < 2 ^ bits.0 → HoldsNulls (Some number) bits 0
whole_word bits number bytes is small = from_first bits number
    (λ k. word_by bits.0 bits.1 number k (nat_lt k bits.0) refl bytes small (λ less. ap (λ (n : ℕ). bit_at n k) is))

-- The bits behind the last column's are left out.
pub cut_word : (bits : Bitmap) (number word : ℕ) → IsBytes bits.1 → number ≡ little_number (length bits.1) bits.1 → word ≡ number % 2 ^ bits.0 → word < 2 ^ bits.0 → HoldsNulls (Some word) bits 0
cut_word bits number word bytes is cut small =
    let whole : number / 2 ^ bits.0 * 2 ^ bits.0 + word ≡ number = ap (λ (n : ℕ). number / 2 ^ bits.0 * 2 ^ bits.0 + n) cut ∙ div-add-mod' number (2 ^ bits.0) in
    from_first bits word (λ k. word_by bits.0 bits.1 word k (nat_lt k bits.0) refl bytes small
    (λ less. sym (low_bit (number / 2 ^ bits.0) word bits.0 k less) ∙ ap (λ (n : ℕ). bit_at n k) (whole ∙ is)))

-- The same, of as many bits as a word has.
pub of_64 : (bits : Bitmap) (len number : ℕ) → len ≡ bits.0 → len ≡ 64 → number < 18446744073709551616 → IsBytes bits.1 → number ≡ little_number (length bits.1) bits.1
    → HoldsNulls (Some number) bits 0
of_64 bits len number is count small bytes same =
    let fits : number < 2 ^ bits.0 = subst (λ (n : ℕ). number < 2 ^ n) (sym count ∙ is) small in
    whole_word bits number bytes same fits

-- The same, of fewer.
pub of_fewer : (bits : Bitmap) (len number : ℕ) → len ≡ bits.0 → len ≤ 64 → ¬ (len ≡ 64) → IsBytes bits.1 → number ≡ little_number (length bits.1) bits.1
    → HoldsNulls (Some (number % (1 * 2 ^ len % 18446744073709551616))) bits 0
of_fewer bits len number is within apart bytes same =
    let less : len < 64 = omega (arith, within, apart) in
    let power : 1 * 2 ^ len % 18446744073709551616 ≡ 2 ^ bits.0 = one_shl len 64 less ∙ ap (λ (n : ℕ). 2 ^ n) is in
    let cut : number % (1 * 2 ^ len % 18446744073709551616) ≡ number % 2 ^ bits.0 = ap (λ (n : ℕ). number % n) power in
    let small : number % (1 * 2 ^ len % 18446744073709551616) < 2 ^ bits.0 = rw cut (mod-lt number (one-le-pow bits.0 2 (omega arith))) in
    cut_word bits number (number % (1 * 2 ^ len % 18446744073709551616)) bytes same cut small

pub no_word : (nulls : Bitmap) (place : ℕ) → HoldsNulls None nulls place
no_word nulls place word is = absurd cc

-- ---- the bits of the columns that are left

pub first_null : (word : ℕ) (found : Option ℕ) (nulls : Bitmap) (place : ℕ) → HoldsNulls found nulls place → found ≡ Some word → (word % 2 == 1) ≡ is_set nulls place
first_null word found nulls place holds is =
    let here : place + 0 ≡ place = omega arith in
    ap (λ (n : ℕ). n == 1) (sym (bit_at_lowest word)) ∙ sym (holds word is 0) ∙ ap (is_set nulls) here

pub next_nulls : (found next : Option ℕ) (nulls : Bitmap) (place : ℕ) → HoldsNulls found nulls place → next ≡ option_map (λ (n : ℕ). n / 2) found → HoldsNulls next nulls (place + 1)
next_nulls None next nulls place holds same word is k = absurd cc
next_nulls (Some first) next nulls place holds same word is k =
    let behind : place + 1 + k ≡ place + suc k = omega arith in
    let half : first / 2 ≡ word = cc in
    ap (is_set nulls) behind ∙ holds first refl (suc k) ∙ ap (λ (n : ℕ). n == 1) (bit_at-suc first k ∙ ap (λ (n : ℕ). bit_at n k) half)
