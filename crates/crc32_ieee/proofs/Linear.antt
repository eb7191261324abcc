-- Shifting bits out is linear under xor, so a word can be processed as the xor of its bytes, each looked up by itself.
use Rattle.std.proofs.Common.{◌≡◌, ℕ, zero, suc, ◌+◌, ◌*◌, ◌/◌, ◌%◌, ◌^◌, ◌<◌, ◌≤◌, List, [], ◌∷◌, ◌++◌, length, slice_index, get_or, take, drop, refl, sym, ap, subst, inl, inr, ◌∙◌, arith}
use Rattle.std.proofs.lemmas.List.{get_or-take, get_or-drop, get_or_past, length-take-le, take-append-drop, nil_from_length}
use Rattle.std.proofs.lemmas.Bool.{cases_lt}
use Rattle.std.specs.Int.{w32, w64, from_le_bytes}
use Rattle.std.specs.Int.RustNames.{bit_xor}
use lib.Bits.{xor_assoc, xor_zero_l, xor_zero_r, xor_self, xor_comm, xor_shr, xor_mod, xor_shifted, shifted_half, shifted_even}
use Rattle.crc32_ieee.specs.Crc32.{polynomial, after_bit, after_bits, register}

pub xor_swap : (a b c d : ℕ) → bit_xor (bit_xor a b) (bit_xor c d) ≡ bit_xor (bit_xor a c) (bit_xor b d)
xor_swap a b c d =
    xor_assoc a b (bit_xor c d)
    ∙ ap (bit_xor a) (sym (xor_assoc b c d) ∙ ap (λ (x : ℕ). bit_xor x d) (xor_comm b c) ∙ xor_assoc c b d)
    ∙ sym (xor_assoc a c (bit_xor b d))

none_times : (p : ℕ) → 0 * p ≡ 0
none_times p = omega arith

times_bit : (x y p : ℕ) → x < 2 → y < 2 → bit_xor x y * p ≡ bit_xor (x * p) (y * p)
times_bit zero y p hx hy = ap (λ (z : ℕ). z * p) (xor_zero_l y) ∙ sym (ap (λ (z : ℕ). bit_xor z (y * p)) (none_times p) ∙ xor_zero_l (y * p))
times_bit (suc zero) zero p hx hy = ap (λ (z : ℕ). z * p) (xor_zero_r 1) ∙ sym (ap (bit_xor (1 * p)) (none_times p) ∙ xor_zero_r (1 * p))
times_bit (suc zero) (suc zero) p hx hy = ap (λ (z : ℕ). z * p) (xor_self 1) ∙ none_times p ∙ sym (xor_self (1 * p))
times_bit (suc zero) (suc (suc y)) p hx hy = absurd (omega arith)
times_bit (suc (suc x)) y p hx hy = absurd (omega arith)

pub after_bit-xor : (a b : ℕ) → after_bit (bit_xor a b) ≡ bit_xor (after_bit a) (after_bit b)
unfolding after_bit
after_bit-xor a b =
    let halves : bit_xor a b / 2 ≡ bit_xor (a / 2) (b / 2) = xor_shr a b 1 in
    let lows : bit_xor a b % 2 ≡ bit_xor (a % 2) (b % 2) = xor_mod a b 1 in
    (λ i. bit_xor (halves i) (lows i * polynomial))
    ∙ ap (bit_xor (bit_xor (a / 2) (b / 2))) (times_bit (a % 2) (b % 2) polynomial (omega arith) (omega arith))
    ∙ xor_swap (a / 2) (b / 2) (a % 2 * polynomial) (b % 2 * polynomial)

pub after_bits-xor : (n a b : ℕ) → after_bits n (bit_xor a b) ≡ bit_xor (after_bits n a) (after_bits n b)
unfolding after_bits
after_bits-xor zero a b = refl
after_bits-xor (suc n) a b = ap (after_bits n) (after_bit-xor a b) ∙ after_bits-xor n (after_bit a) (after_bit b)

pub after_bits-add : (m n c : ℕ) → after_bits (m + n) c ≡ after_bits n (after_bits m c)
unfolding after_bits
after_bits-add zero n c = let e : 0 + n ≡ n = omega arith in ap (λ (k : ℕ). after_bits k c) e
after_bits-add (suc m) n c = let e : suc m + n ≡ suc (m + n) = omega arith in ap (λ (k : ℕ). after_bits k c) e ∙ after_bits-add m n (after_bit c)

after_bit-shifted : (n a : ℕ) → after_bit (a * 2 ^ suc n) ≡ a * 2 ^ n
unfolding after_bit
after_bit-shifted n a =
    (λ i. bit_xor (shifted_half a n i) (shifted_even a n i * polynomial)) ∙ ap (bit_xor (a * 2 ^ n)) (none_times polynomial) ∙ xor_zero_r (a * 2 ^ n)

pub after_bits-shifted : (n a : ℕ) → after_bits n (a * 2 ^ n) ≡ a
unfolding after_bits
after_bits-shifted zero a = omega arith
after_bits-shifted (suc n) a = ap (after_bits n) (after_bit-shifted n a) ∙ after_bits-shifted n a

-- The lowest byte is looked up, and the bits above it are shifted down.
pub by_lowest : (n w b : ℕ) → b < 256 → after_bits (8 + n) (w * 256 + b) ≡ bit_xor (after_bits n w) (after_bits (8 + n) b)
by_lowest n w b byte =
    ap (after_bits (8 + n)) (sym (xor_shifted w 8 b byte)) ∙ after_bits-xor (8 + n) (w * 256) b
    ∙ ap (λ (x : ℕ). bit_xor x (after_bits (8 + n) b)) (after_bits-add 8 n (w * 256) ∙ ap (after_bits n) (after_bits-shifted 8 w))

-- Shifting eight bits out: the lowest byte is looked up, and the bits above it are shifted down.
pub by_byte : (c : ℕ) → after_bits 8 c ≡ bit_xor (after_bits 8 (c % 256)) (c / 256)
unfolding after_bits
by_byte c =
    let split : c ≡ c / 256 * 256 + c % 256 = omega arith in
    ap (after_bits 8) split ∙ by_lowest 0 (c / 256) (c % 256) (omega arith) ∙ xor_comm (c / 256) (after_bits 8 (c % 256))

pub by_byte-xor : (c b : ℕ) → b < 256 → after_bits 8 (bit_xor c b) ≡ bit_xor (after_bits 8 (bit_xor (c % 256) b)) (c / 256)
by_byte-xor c b byte =
    let fits : b % 256 ≡ b = omega arith in
    let none : b / 256 ≡ 0 = omega arith in
    let low : bit_xor c b % 256 ≡ bit_xor (c % 256) b = xor_mod c b 8 ∙ ap (bit_xor (c % 256)) fits in
    let high : bit_xor c b / 256 ≡ c / 256 = xor_shr c b 8 ∙ ap (bit_xor (c / 256)) none ∙ xor_zero_r (c / 256) in
    by_byte (bit_xor c b) ∙ (λ i. bit_xor (after_bits 8 (low i)) (high i))

-- A word is processed byte by byte.
next_byte : (n w : ℕ) → after_bits (8 + n) w ≡ bit_xor (after_bits n (w / 256)) (after_bits (8 + n) (w % 256))
next_byte n w =
    let split : w ≡ w / 256 * 256 + w % 256 = omega arith in
    ap (after_bits (8 + n)) split ∙ by_lowest n (w / 256) (w % 256) (omega arith)

next_at : (n k w x : ℕ) → x ≡ w / 2 ^ k → w / 2 ^ k / 256 ≡ w / 2 ^ (k + 8)
    → after_bits (8 + n) x ≡ bit_xor (after_bits n (w / 2 ^ (k + 8))) (after_bits (8 + n) (w / 2 ^ k % 256))
next_at n k w x e shifted =
    ap (after_bits (8 + n)) e ∙ next_byte n (w / 2 ^ k) ∙ ap (λ (y : ℕ). bit_xor (after_bits n y) (after_bits (8 + n) (w / 2 ^ k % 256))) shifted

onto : (x y z : ℕ) → x ≡ y → bit_xor x z ≡ bit_xor y z
onto x y z e = ap (λ (v : ℕ). bit_xor v z) e

abbrev pub looked_up : ℕ → ℕ
looked_up w =
    bit_xor (bit_xor (bit_xor (bit_xor (bit_xor (bit_xor (bit_xor
    (after_bits 8 (w / 2 ^ 56))
    (after_bits 16 (w / 2 ^ 48 % 256)))
    (after_bits 24 (w / 2 ^ 40 % 256)))
    (after_bits 32 (w / 2 ^ 32 % 256)))
    (after_bits 40 (w / 2 ^ 24 % 256)))
    (after_bits 48 (w / 2 ^ 16 % 256)))
    (after_bits 56 (w / 2 ^ 8 % 256)))
    (after_bits 64 (w % 256))

pub by_bytes : (w : ℕ) → after_bits 64 w ≡ looked_up w
by_bytes w =
    next_byte 56 w
    ∙ onto _ _ (after_bits 64 (w % 256)) (next_at 48 8 w (w / 256) refl (omega arith)
    ∙ onto _ _ (after_bits 56 (w / 2 ^ 8 % 256)) (next_at 40 16 w (w / 2 ^ 16) refl (omega arith)
    ∙ onto _ _ (after_bits 48 (w / 2 ^ 16 % 256)) (next_at 32 24 w (w / 2 ^ 24) refl (omega arith)
    ∙ onto _ _ (after_bits 40 (w / 2 ^ 24 % 256)) (next_at 24 32 w (w / 2 ^ 32) refl (omega arith)
    ∙ onto _ _ (after_bits 32 (w / 2 ^ 32 % 256)) (next_at 16 40 w (w / 2 ^ 40) refl (omega arith)
    ∙ onto _ _ (after_bits 24 (w / 2 ^ 40 % 256)) (next_at 8 48 w (w / 2 ^ 48) refl (omega arith)))))))

-- The same of half a word.
abbrev pub half_looked_up : ℕ → ℕ
half_looked_up w =
    bit_xor (bit_xor (bit_xor
    (after_bits 8 (w / 2 ^ 24))
    (after_bits 16 (w / 2 ^ 16 % 256)))
    (after_bits 24 (w / 2 ^ 8 % 256)))
    (after_bits 32 (w % 256))

pub by_half_bytes : (w : ℕ) → after_bits 32 w ≡ half_looked_up w
by_half_bytes w =
    next_byte 24 w
    ∙ onto _ _ (after_bits 32 (w % 256)) (next_at 16 8 w (w / 256) refl (omega arith)
    ∙ onto _ _ (after_bits 24 (w / 2 ^ 8 % 256)) (next_at 8 16 w (w / 2 ^ 16) refl (omega arith)))

-- The little-endian number of the bytes.
pub little : List ℕ → ℕ
little [] = 0
little (b ∷ s) = little s * 256 + b

abbrev pub AreBytes : List ℕ → Type 0
AreBytes s = (i : ℕ) → slice_index s i < 256

-- Processing bytes one by one is processing the word of them at once.
pub register-word : (c : ℕ) (s : List ℕ) → AreBytes s → register c s ≡ after_bits (8 * length s) (bit_xor c (little s))
unfolding register after_bits little
register-word c [] are = sym (xor_zero_r c)
register-word c (b ∷ s) are =
    let l = little s in
    let moved : bit_xor (after_bits 8 (bit_xor c b)) l ≡ after_bits 8 (bit_xor (bit_xor c b) (l * 256)) =
    sym (after_bits-xor 8 (bit_xor c b) (l * 256) ∙ ap (bit_xor (after_bits 8 (bit_xor c b))) (after_bits-shifted 8 l)) in
    let word : bit_xor (bit_xor c b) (l * 256) ≡ bit_xor c (l * 256 + b) =
    xor_assoc c b (l * 256) ∙ ap (bit_xor c) (xor_comm b (l * 256) ∙ xor_shifted l 8 b (are 0)) in
    let count : 8 + 8 * length s ≡ 8 * suc (length s) = omega arith in
    register-word (after_bits 8 (bit_xor c b)) s (λ i. are (suc i))
    ∙ ap (after_bits (8 * length s)) (moved ∙ ap (after_bits 8) word)
    ∙ sym (after_bits-add 8 (8 * length s) (bit_xor c (l * 256 + b)))
    ∙ ap (λ (k : ℕ). after_bits k (bit_xor c (l * 256 + b))) count

pub register-append : (c : ℕ) (s r : List ℕ) → register c (s ++ r) ≡ register (register c s) r
unfolding register
register-append c [] r = refl
register-append c (b ∷ s) r = register-append (after_bits 8 (bit_xor c b)) s r

-- ---- steps of the code

word_of : (w : List ℕ) → length w ≡ 8 → little w ≡ from_le_bytes w64 w
unfolding little
word_of (a ∷ b ∷ c ∷ d ∷ e ∷ f ∷ g ∷ h ∷ []) n = omega arith
word_of s n = absurd (omega arith)

half_of : (w : List ℕ) → length w ≡ 4 → little w ≡ from_le_bytes w32 w
unfolding little
half_of (a ∷ b ∷ c ∷ d ∷ []) n = omega arith
half_of s n = absurd (omega arith)

front_bytes : (n : ℕ) (s : List ℕ) → AreBytes s → n ≤ length s → AreBytes (take n s)
front_bytes n s are enough i = elim (cases_lt i n) [
  | inl near ↦ subst (λ (x : ℕ). x < 256) (sym (get_or-take n s i 0 near)) (are i)
  | inr far ↦
      let e : length (take n s) ≡ n = length-take-le n s enough in
      let past : get_or (take n s) i 0 ≡ 0 = get_or_past (take n s) i 0 (omega arith) in
      omega arith
]

pub behind_bytes : (s behind : List ℕ) → AreBytes s → behind ≡ drop 8 s → AreBytes behind
behind_bytes s behind are e i = subst (λ (x : ℕ). x < 256) (sym (ap (λ (t : List ℕ). get_or t i 0) e ∙ get_or-drop 8 s i 0)) (are (8 + i))

-- Several bytes at once, whose little-endian number is known.
taken : (n c v number : ℕ) (s word behind : List ℕ) → AreBytes s → n ≤ length s → word ≡ take n s → behind ≡ drop n s
    → (length word ≡ n → little word ≡ number) → v ≡ after_bits (8 * n) (bit_xor number c) → register v behind ≡ register c s
taken n c v number s word behind are enough front back is looked =
    let front_len : length (take n s) ≡ n = length-take-le n s enough in
    let whole : length word ≡ n = ap length front ∙ front_len in
    let bytes : AreBytes word = subst AreBytes (sym front) (front_bytes n s are enough) in
    let at_once : register c word ≡ v =
    register-word c word bytes
    ∙ (λ i. after_bits (8 * whole i) (bit_xor c (is whole i)))
    ∙ ap (after_bits (8 * n)) (xor_comm c number)
    ∙ sym looked in
    let split : s ≡ word ++ behind = sym (take-append-drop n s) ∙ (λ i. sym front i ++ sym back i) in
    sym (ap (register c) split ∙ register-append c word behind ∙ ap (λ (x : ℕ). register x behind) at_once)

-- Eight bytes at once.
pub word_taken : (c v : ℕ) (s word behind : List ℕ) → AreBytes s → 8 ≤ length s → word ≡ take 8 s → behind ≡ drop 8 s
    → v ≡ after_bits 64 (bit_xor (from_le_bytes w64 word) c) → register v behind ≡ register c s
word_taken c v s word behind are enough front back looked = taken 8 c v (from_le_bytes w64 word) s word behind are enough front back (word_of word) looked

-- Four bytes at once.
pub half_taken : (c v : ℕ) (s half behind : List ℕ) → AreBytes s → 4 ≤ length s → half ≡ take 4 s → behind ≡ drop 4 s
    → v ≡ after_bits 32 (bit_xor (from_le_bytes w32 half) c) → register v behind ≡ register c s
half_taken c v s half behind are enough front back looked = taken 4 c v (from_le_bytes w32 half) s half behind are enough front back (half_of half) looked

-- The last bytes, one by one.
pub byte_taken : (c v b : ℕ) (s behind : List ℕ) → s ≡ b ∷ behind → v ≡ after_bits 8 (bit_xor c b) → register v behind ≡ register c s
unfolding register
byte_taken c v b s behind parts looked = ap (λ (x : ℕ). register x behind) looked ∙ sym (ap (register c) parts)

pub none_left : (c : ℕ) (s : List ℕ) → length s ≡ 0 → register c s ≡ c
unfolding register
none_left c s none = ap (register c) (nil_from_length s none)
