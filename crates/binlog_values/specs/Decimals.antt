-- Decimal numbers: the sign, the digits, the exact integer, and the text.
-- Source: MySQL's documentation of its source code, `decimal.h`.
use Rattle.std.specs.Prelude.{ℕ, ◌+◌, ◌-◌, ◌*◌, ◌^◌, ◌==◌, Bool, ℤ, pos, neg_ℤ, List, [], ◌∷◌, ◌++◌, take, drop, length, slice_index, nat_lt, if◌then◌else◌}
use Rattle.byteorder.specs.Endian.{big_number}
use Rattle.binlog_values.specs.Contents.{digits_len, groups, magnitude}
use Rattle.binlog_values.specs.Texts.{last_digits, digits_codes, sign_text}

-- The number is negative: the top bit of its first byte isn't set.
abbrev pub is_negative_decimal : List ℕ → Bool
is_negative_decimal s = nat_lt (slice_index s 0) 128

-- ---- the digits

-- The digits of groups, one group after the other: each group is a number of its digits.
abbrev pub groups_digits : List ℕ → List ℕ → List ℕ
groups_digits [] s = []
groups_digits (count ∷ counts) s = last_digits count (big_number (digits_len count) s) ++ groups_digits counts (drop (digits_len count) s)

-- All digits of a decimal number of this precision and scale, the most significant first; the last `scale` are after the
-- point.
abbrev pub decimal_digits : ℕ → ℕ → List ℕ → List ℕ
decimal_digits precision scale s = groups_digits (groups precision scale) (magnitude s)

-- ---- the exact integer

-- The number of decimal digits, the most significant first.
abbrev pub digits_number : List ℕ → ℕ
digits_number [] = 0
digits_number (digit ∷ digits) = digit * 10 ^ length digits + digits_number digits

-- The number of digits of groups.
abbrev pub digits_count : List ℕ → ℕ
digits_count [] = 0
digits_count (count ∷ counts) = count + digits_count counts

-- The number of groups, one after the other: a group stands before as many digits as the groups behind it have.
abbrev pub groups_number : List ℕ → List ℕ → ℕ
groups_number [] s = 0
groups_number (count ∷ counts) s = big_number (digits_len count) s * 10 ^ digits_count counts + groups_number counts (drop (digits_len count) s)

-- The number of all digits of a decimal number of this precision and scale.
abbrev pub decimal_number : ℕ → ℕ → List ℕ → ℕ
decimal_number precision scale s = groups_number (groups precision scale) (magnitude s)

-- The exact integer of a decimal number of this precision and scale: all its digits, with its sign.
abbrev pub unscaled : ℕ → ℕ → List ℕ → ℤ
unscaled precision scale s = let n = decimal_number precision scale s in if is_negative_decimal s then neg_ℤ (pos n) else pos n

-- ---- the text

-- Digits without the zeros in front.
abbrev pub without_zeros : List ℕ → List ℕ
without_zeros [] = []
without_zeros (digit ∷ digits) = if digit == 0 then without_zeros digits else digit ∷ digits

-- Digits, or a zero if there are none.
abbrev pub or_zero : List ℕ → List ℕ
or_zero [] = 0 ∷ []
or_zero (digit ∷ digits) = digit ∷ digits

-- The digits before the point: without zeros in front, but at least one.
abbrev pub shown_whole : List ℕ → List ℕ
shown_whole digits = or_zero (without_zeros digits)

-- The point and the digits after it, if there are any.
abbrev pub shown_scale : List ℕ → List ℕ
shown_scale [] = []
shown_scale (digit ∷ digits) = 46 ∷ digits_codes (digit ∷ digits)

-- A decimal number of this precision and scale, by its bytes: `-1234567890.1234`. Its last `scale` digits are after the point.
unfoldable pub decimal_text : ℕ → ℕ → List ℕ → List ℕ
decimal_text precision scale s =
    let digits = decimal_digits precision scale s in
    sign_text (is_negative_decimal s) ++ digits_codes (shown_whole (take (precision - scale) digits)) ++ shown_scale (drop (precision - scale) digits)
