-- Hexadecimal digits from a table, byte by byte.
use Rattle.std.proofs.Common.{◌≡◌, ℕ, zero, suc, ◌+◌, ◌-◌, ◌*◌, ◌/◌, ◌%◌, ◌<◌, Bool, true, ◌&&◌, T, eqb, List, [], ◌∷◌, ◌++◌, length, slice_index, refl, inl, inr, arith, eq-zero-or-pos, eqb→eq, append_assoc}
use lib.Ieee.Fits.{and_l, and_r}
use Rattle.hex.specs.Hex.{encode_lower, encode_with, lower_digits}
use Rattle.binlog_listing.specs.declared.line.TheConstants.{HEX_DIGITS}

abbrev are_bytes : ℕ → Bool
are_bytes zero = true
are_bytes (suc b) = (eqb (slice_index HEX_DIGITS (b * 2)) (slice_index lower_digits (b / 16)) && eqb (slice_index HEX_DIGITS (b * 2 + 1)) (slice_index lower_digits (b % 16))) && are_bytes b

below : (n b : ℕ) → T (are_bytes n) → b < n
    → (slice_index HEX_DIGITS (b * 2) ≡ slice_index lower_digits (b / 16)) × (slice_index HEX_DIGITS (b * 2 + 1) ≡ slice_index lower_digits (b % 16))
below zero b t h = absurd (omega arith)
below (suc n) b t h =
    elim (eq-zero-or-pos (n - b)) [
      | inl z ↦ let e : b ≡ n = omega arith in let a = and_l _ (are_bytes n) t in rw e (eqb→eq _ _ (and_l _ _ a), eqb→eq _ _ (and_r _ _ a))
      | inr g ↦ below n b (and_r _ (are_bytes n) t) (omega arith)
    ]

-- The table holds the two digits of each byte.
pub HEX_DIGITS_at : (b : ℕ) (rest : List ℕ) → b < 256 → slice_index HEX_DIGITS (b * 2) ∷ slice_index HEX_DIGITS (b * 2 + 1) ∷ rest ≡ encode_lower (b ∷ []) ++ rest
unfolding encode_with
HEX_DIGITS_at b rest h = let at = below 256 b tt h in rw (at.0, at.1)

-- Two bytes, and four, one after the other.
pub two_bytes : (bytes rest : List ℕ) → length bytes ≡ 2
    → encode_lower (slice_index bytes 0 ∷ []) ++ (encode_lower (slice_index bytes 1 ∷ []) ++ rest) ≡ encode_lower bytes ++ rest
unfolding encode_with
two_bytes (a ∷ b ∷ []) rest h = refl
two_bytes bytes rest h = absurd (omega arith)

pub four_bytes : (bytes rest : List ℕ) → length bytes ≡ 4
    → encode_lower (slice_index bytes 0 ∷ []) ++ (encode_lower (slice_index bytes 1 ∷ []) ++ (encode_lower (slice_index bytes 2 ∷ []) ++ (encode_lower (slice_index bytes 3 ∷ []) ++ rest))) ≡ encode_lower bytes ++ rest
unfolding encode_with
four_bytes (a ∷ b ∷ c ∷ d ∷ []) rest h = refl
four_bytes bytes rest h = absurd (omega arith)

-- The parts of a line, from its end.
pub error_parts : (index word number new_line : List ℕ) → index ++ (word ++ (number ++ new_line)) ≡ index ++ word ++ number ++ new_line
error_parts index word number new_line = simp append_assoc refl

pub event_parts : (space new_line a b c d e f g h : List ℕ)
    → a ++ (space ++ (b ++ (space ++ (c ++ (space ++ (d ++ (space ++ (e ++ (space ++ (f ++ (space ++ (g ++ (space ++ (h ++ new_line))))))))))))))
    ≡ a ++ space ++ b ++ space ++ c ++ space ++ d ++ space ++ e ++ space ++ f ++ space ++ g ++ space ++ h ++ new_line
event_parts space new_line a b c d e f g h = simp append_assoc refl
