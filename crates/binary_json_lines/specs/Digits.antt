-- Decimal digits as text, and the text of decimal numbers. Source: MySQL's documentation of its source code, `decimal.h`.
use Rattle.std.specs.Prelude.{ℕ, zero, suc, ◌+◌, ◌-◌, ◌*◌, ◌/◌, ◌%◌, ◌^◌, ◌==◌, ◌||◌, not, Bool, true, false, List, [], ◌∷◌, ◌++◌, take, drop, nat_lt, decimal, if◌then◌else◌}
use Rattle.binary_json.specs.Opaques.{digits_len, magnitude, number_behind, is_negative_decimal}

-- The last decimal digits of a number, this many, with zeros in front.
unfoldable pub last_digits : ℕ → ℕ → List ℕ
last_digits zero n = []
last_digits (suc count) n = (n / 10 ^ count % 10) ∷ last_digits count n

-- There is a digit that isn't zero among the digits, or before them.
abbrev pub is_begun_by : Bool → List ℕ → Bool
is_begun_by is_begun [] = is_begun
is_begun_by is_begun (digit ∷ digits) = is_begun_by (is_begun || not (digit == 0)) digits

-- A digit, if it is shown.
abbrev pub digit_text : Bool → ℕ → List ℕ
digit_text is_shown digit = if is_shown then (48 + digit) ∷ [] else []

-- Digits. Zeros in front are left out, unless there is a digit before them that isn't.
abbrev pub digits_text : Bool → List ℕ → List ℕ
digits_text is_begun [] = []
digits_text is_begun (digit ∷ digits) = digit_text (is_begun || not (digit == 0)) digit ++ digits_text (is_begun || not (digit == 0)) digits

-- The digits of a group, whose bytes begin at this place.
abbrev pub group_digits : ℕ → ℕ → List ℕ → List ℕ
group_digits place digits s = last_digits digits (number_behind 0 (take (digits_len digits) (drop place s)))

-- The digits of so many groups of nine.
abbrev pub nines_digits : ℕ → ℕ → List ℕ → List ℕ
nines_digits zero place s = []
nines_digits (suc count) place s = group_digits place 9 s ++ nines_digits count (place + 4) s

-- The digits before the point: a group of fewer than nine, and groups of nine.
abbrev pub whole_digits : ℕ → List ℕ → List ℕ
whole_digits count s = group_digits 0 (count % 9) s ++ nines_digits (count / 9) (digits_len (count % 9)) s

-- The number of bytes of so many digits before the point.
abbrev pub whole_len : ℕ → ℕ
whole_len count = digits_len (count % 9) + 4 * (count / 9)

-- The digits after the point, whose bytes begin at this place: groups of nine, and a group of fewer.
abbrev pub scale_digits : ℕ → ℕ → List ℕ → List ℕ
scale_digits scale place s = nines_digits (scale / 9) place s ++ group_digits (place + 4 * (scale / 9)) (scale % 9) s

-- The digits before the point: without zeros in front, but at least one.
abbrev pub whole_text : List ℕ → List ℕ
whole_text digits = digits_text false digits ++ (if is_begun_by false digits then [] else 48 ∷ [])

-- The point and the digits after it, if there are any.
abbrev pub scale_text : ℕ → ℕ → List ℕ → List ℕ
scale_text scale place s = if scale == 0 then [] else 46 ∷ digits_text true (scale_digits scale place s)

abbrev pub sign_text : Bool → List ℕ
sign_text is_negative = if is_negative then 45 ∷ [] else []

-- A decimal number, by its precision, its scale and the bytes of its digits: `-1234567890.1234`.
unfoldable pub decimal_text : ℕ → ℕ → List ℕ → List ℕ
decimal_text precision scale s =
    sign_text (is_negative_decimal s)
    ++ (whole_text (whole_digits (precision - scale) (magnitude s)) ++ scale_text scale (whole_len (precision - scale)) (magnitude s))

-- A number in so many digits or more.
abbrev pub padded_text : ℕ → ℕ → List ℕ
padded_text count n = if nat_lt n (10 ^ count) then digits_text true (last_digits count n) else decimal n
