-- Null bitmaps, a byte at a time, and their bits.
use Rattle.std.proofs.Common.{◌≡◌, ℕ, zero, suc, ◌+◌, ◌-◌, ◌*◌, ◌/◌, ◌%◌, ◌<◌, ◌≤◌, Bool, true, false, cond, List, [], ◌∷◌, ◌++◌, length, drop, get_or, refl, sym, ap, subst, ◌∙◌, append_assoc, arith}
use Rattle.std.specs.Prelude.{◌==◌, unwrap_or, nat_lt, if◌then◌else◌, Some, None}
use Rattle.std.specs.Int.{bit_at}
use Rattle.std.proofs.lemmas.Bool.{ltb-false}
use Rattle.std.proofs.lemmas.Nat.Bits.{bit_at_lowest}
use Rattle.std.proofs.lemmas.List.{append-nil, get_or-drop}
use Rattle.binlog_wire.specs.Bits.{bit_of}
use Rattle.binlog_images.specs.Bits.{is_set}
use Rattle.binlog_images.specs.NullBits.{null_bit, null_byte, null_bytes, nulls_of}

bytes_len : (count place : ℕ) (flags : List Bool) → length (null_bytes count place flags) ≡ count
bytes_len zero place flags = refl
bytes_len (suc count) place flags = ap (λ (n : ℕ). suc n) (bytes_len count (place + 8) flags)

pub nulls_len : (flags : List Bool) → length (nulls_of flags) ≡ (length flags + 7) / 8
nulls_len flags = bytes_len ((length flags + 7) / 8) 0 flags

-- One more byte.
pub nulls_step : (s t all : List ℕ) (count i byte : ℕ) (flags : List Bool) → i < count → s ++ null_bytes (count - i) (8 * i) flags ≡ all → byte ≡ null_byte (drop (8 * i) flags)
    → t ≡ s ++ byte ∷ [] → t ++ null_bytes (count - (i + 1)) (8 * (i + 1)) flags ≡ all
nulls_step s t all count i byte flags less same is more =
    let left : count - i ≡ suc (count - (i + 1)) = omega arith in
    let place : 8 * (i + 1) ≡ 8 * i + 8 = omega arith in
    let split : s ++ null_bytes (suc (count - (i + 1))) (8 * i) flags ≡ all = subst (λ (n : ℕ). s ++ null_bytes n (8 * i) flags ≡ all) left same in
    let after : (s ++ null_byte (drop (8 * i) flags) ∷ []) ++ null_bytes (count - (i + 1)) (8 * i + 8) flags ≡ all =
    append_assoc s (null_byte (drop (8 * i) flags) ∷ []) (null_bytes (count - (i + 1)) (8 * i + 8) flags) ∙ split in
    let here : t ≡ s ++ null_byte (drop (8 * i) flags) ∷ [] = more ∙ ap (λ (b : ℕ). s ++ b ∷ []) is in
    subst (λ (n : ℕ). t ++ null_bytes (count - (i + 1)) n flags ≡ all) (sym place)
    (subst (λ (u : List ℕ). u ++ null_bytes (count - (i + 1)) (8 * i + 8) flags ≡ all) (sym here) after)

-- All bytes are there.
pub nulls_end : (s all : List ℕ) (count i place : ℕ) (flags : List Bool) → count - i ≡ 0 → s ++ null_bytes (count - i) place flags ≡ all → s ≡ all
nulls_end s all count i place flags none same =
    let last : s ++ [] ≡ all = subst (λ (n : ℕ). s ++ null_bytes n place flags ≡ all) none same in
    sym (append-nil s) ∙ last

-- ---- the bits

small_by : (t : Bool) → cond t 1 0 ≤ 1
small_by true = omega arith
small_by false = omega arith

null_small : (flags : List Bool) (place : ℕ) → null_bit flags place ≤ 1
null_small flags place = small_by (get_or flags place true)

-- Eight bits in a byte.
eight_bits : (a b c d e f g h : ℕ) → a ≤ 1 → b ≤ 1 → c ≤ 1 → d ≤ 1 → e ≤ 1 → f ≤ 1 → g ≤ 1 → h ≤ 1 → (byte : ℕ)
    → byte ≡ (a + 2 * b + 4 * c + 8 * d) + 16 * (e + 2 * f + 4 * g + 8 * h)
    → (byte % 2 ≡ a) × (byte / 2 % 2 ≡ b) × (byte / 4 % 2 ≡ c) × (byte / 8 % 2 ≡ d) × (byte / 16 % 2 ≡ e) × (byte / 32 % 2 ≡ f) × (byte / 64 % 2 ≡ g) × (byte / 128 % 2 ≡ h)
eight_bits a b c d e f g h p q r s t u v w byte is =
    (omega arith, omega arith, omega arith, omega arith, omega arith, omega arith, omega arith, omega arith)

bits_of_byte : (s : List Bool) → let byte = null_byte s in
    (byte % 2 ≡ null_bit s 0) × (byte / 2 % 2 ≡ null_bit s 1) × (byte / 4 % 2 ≡ null_bit s 2) × (byte / 8 % 2 ≡ null_bit s 3)
    × (byte / 16 % 2 ≡ null_bit s 4) × (byte / 32 % 2 ≡ null_bit s 5) × (byte / 64 % 2 ≡ null_bit s 6) × (byte / 128 % 2 ≡ null_bit s 7)
bits_of_byte s = eight_bits (null_bit s 0) (null_bit s 1) (null_bit s 2) (null_bit s 3) (null_bit s 4) (null_bit s 5) (null_bit s 6) (null_bit s 7)
    (null_small s 0) (null_small s 1) (null_small s 2) (null_small s 3) (null_small s 4) (null_small s 5) (null_small s 6) (null_small s 7) (null_byte s) refl

first_bit : (byte n : ℕ) → byte % 2 ≡ n → bit_at byte 0 ≡ n
first_bit byte n h = bit_at_lowest byte ∙ h

-- The bit of each of eight columns.
byte_bit : (s : List Bool) (i : ℕ) → i < 8 → bit_at (null_byte s) i ≡ null_bit s i
byte_bit s zero less = let b = bits_of_byte s in first_bit (null_byte s) (null_bit s 0) b.0
byte_bit s (suc zero) less = let b = bits_of_byte s in b.1
byte_bit s (suc (suc zero)) less = let b = bits_of_byte s in b.2
byte_bit s (suc (suc (suc zero))) less = let b = bits_of_byte s in b.3
byte_bit s (suc (suc (suc (suc zero)))) less = let b = bits_of_byte s in b.4
byte_bit s (suc (suc (suc (suc (suc zero))))) less = let b = bits_of_byte s in b.5
byte_bit s (suc (suc (suc (suc (suc (suc zero)))))) less = let b = bits_of_byte s in b.6
byte_bit s (suc (suc (suc (suc (suc (suc (suc zero))))))) less = let b = bits_of_byte s in b.7
byte_bit s (suc (suc (suc (suc (suc (suc (suc (suc i)))))))) less = absurd (omega arith)

-- The byte with an index.
byte_at : (count place j : ℕ) (flags : List Bool) → j < count → get_or (null_bytes count place flags) j 0 ≡ null_byte (drop (place + 8 * j) flags)
byte_at zero place j flags less = absurd (omega arith)
byte_at (suc count) place zero flags less = let e : place ≡ place + 8 * 0 = omega arith in ap (λ (n : ℕ). null_byte (drop n flags)) e
byte_at (suc count) place (suc j) flags less =
    let e : place + 8 + 8 * j ≡ place + 8 * suc j = omega arith in
    byte_at count (place + 8) j flags (omega arith) ∙ ap (λ (n : ℕ). null_byte (drop n flags)) e

one_is : (t : Bool) → (cond t 1 0 == 1) ≡ t
one_is true = refl
one_is false = refl

set_by : (len k : ℕ) (bytes : List ℕ) → k < len → (t : Bool) → nat_lt k len ≡ t → unwrap_or (if t then Some (bit_of bytes k) else None) false ≡ bit_of bytes k
set_by len k bytes less true is = refl
set_by len k bytes less false is = absurd (let no = ltb-false k len is in omega arith)

index_is : (k : ℕ) → 0 + 8 * (k / 8) + k % 8 ≡ k
index_is k = omega arith

-- The null bit of each column.
pub null_is_set : (flags : List Bool) (k : ℕ) → k < length flags → is_set (length flags, nulls_of flags) k ≡ get_or flags k true
null_is_set flags k less =
    let count : ℕ = (length flags + 7) / 8 in
    let byte = byte_at count 0 (k / 8) flags (omega arith) in
    let start : ℕ = 0 + 8 * (k / 8) in
    let bit = byte_bit (drop start flags) (k % 8) (omega arith) in
    let here : get_or (drop start flags) (k % 8) true ≡ get_or flags k true =
    get_or-drop start flags (k % 8) true ∙ ap (λ (n : ℕ). get_or flags n true) (index_is k) in
    set_by (length flags) k (nulls_of flags) less _ refl
    ∙ ap (λ (b : ℕ). bit_at b (k % 8) == 1) byte
    ∙ ap (λ (b : ℕ). b == 1) bit
    ∙ one_is (get_or (drop start flags) (k % 8) true)
    ∙ here
