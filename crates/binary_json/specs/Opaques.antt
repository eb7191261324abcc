-- Which bytes an opaque value of a column type may have. Source: MySQL's documentation of its source code, `decimal.h` and
-- `my_time.h`.
use Rattle.std.specs.Prelude.{ℕ, ◌+◌, ◌-◌, ◌*◌, ◌/◌, ◌%◌, ◌^◌, ◌==◌, ◌&&◌, ◌||◌, Bool, true, false, List, [], ◌∷◌, ◌++◌, length, take, drop, map, replicate, nat_lt, nat_le, if◌then◌else◌, ℤ, Option, Some, None}
use Rattle.std.specs.Int.{w64, cast_signed}
use Rattle.byteorder.specs.Endian.{little_number}

-- ---- decimal numbers

-- The number of bytes of a group of this many decimal digits, 0 to 9.
abbrev pub digits_len : ℕ → ℕ
digits_len digits = if digits == 9 then 4 else (digits + 1) / 2

-- The number of digits of each group, from left to right. The first group, before the point, and the last one, after it, have
-- fewer than nine digits, possibly none; all others have nine.
abbrev pub groups : ℕ → ℕ → List ℕ
groups precision scale = ((precision - scale) % 9) ∷ (replicate ((precision - scale) / 9 + scale / 9) 9 ++ (scale % 9) ∷ [])

-- The number of bytes of groups.
abbrev pub groups_len : List ℕ → ℕ
groups_len [] = 0
groups_len (digits ∷ others) = digits_len digits + groups_len others

-- The bytes of the digits. The top bit of the first byte, which is set if the number isn't negative, is removed; in a negative
-- number all bits are complemented first.
abbrev pub magnitude : List ℕ → List ℕ
magnitude [] = []
magnitude (b ∷ s) = if nat_le 128 b then (b - 128) ∷ s else (127 - b) ∷ map (λ c. 255 - c) s

-- The number has a minus sign: the top bit of the first byte isn't set.
abbrev pub is_negative_decimal : List ℕ → Bool
is_negative_decimal [] = false
is_negative_decimal (b ∷ s) = nat_lt b 128

-- The number of bytes, the most significant first, behind those of the number `high`.
abbrev pub number_behind : ℕ → List ℕ → ℕ
number_behind high [] = high
number_behind high (b ∷ s) = number_behind (256 * high + b) s

-- Each group is a number with at most as many digits as the group has.
abbrev pub groups_fit : List ℕ → List ℕ → Bool
groups_fit [] s = true
groups_fit (digits ∷ others) s = nat_lt (number_behind 0 (take (digits_len digits) s)) (10 ^ digits) && groups_fit others (drop (digits_len digits) s)

-- A decimal number of this precision and scale. A precision may be that of a cast, which is above that of any column.
unfoldable pub is_decimal : ℕ → ℕ → List ℕ → Bool
is_decimal precision scale digits =
    nat_le 1 precision && nat_le precision 81 && nat_le scale precision && nat_le scale 38
    && length digits == groups_len (groups precision scale) && groups_fit (groups precision scale) (magnitude digits)

-- The bytes are the precision, the scale, and the digits.
abbrev pub is_decimal_data : List ℕ → Bool
is_decimal_data [] = false
is_decimal_data (precision ∷ []) = false
is_decimal_data (precision ∷ scale ∷ digits) = is_decimal precision scale digits

-- The precision, the scale and the digits of the bytes of a decimal number.
abbrev pub decimal_parts : List ℕ → Option (ℕ × ℕ × List ℕ)
decimal_parts [] = None
decimal_parts (precision ∷ []) = None
decimal_parts (precision ∷ scale ∷ digits) = Some (precision, scale, digits)

abbrev pub decimal_of : ℕ → List ℕ → Option (ℕ × ℕ × List ℕ)
decimal_of k s = if k == 246 then decimal_parts s else None

-- ---- all column types

-- TIMESTAMP, DATE, TIME and DATETIME.
abbrev pub is_temporal : ℕ → Bool
is_temporal k = k == 7 || nat_le 10 k && nat_le k 12

-- DECIMAL is 246. The temporal types have eight bytes, and all others any bytes.
unfoldable pub is_opaque : ℕ → List ℕ → Bool
is_opaque k s = if k == 246 then is_decimal_data s else if is_temporal k then length s == 8 else true

-- The packed number of a value of a temporal type: a signed number of eight bytes.
abbrev pub packed_of : ℕ → List ℕ → Option ℤ
packed_of k s = if is_temporal k then Some (cast_signed w64 (little_number 8 s)) else None
