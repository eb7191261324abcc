-- The contents of values: a number, bytes, or nothing; and their formats, by the layouts of columns.
-- Source: MySQL's documentation of its source code, `mysql::binlog::event::Rows_event`; and, for the temporal types and
-- for decimal numbers, of `my_time.h` and `decimal.h`.
use Rattle.std.specs.Prelude.{◌≡◌, ℕ, ◌+◌, ◌-◌, ◌*◌, ◌/◌, ◌%◌, ◌^◌, ◌==◌, ◌&&◌, Bool, true, List, [], ◌∷◌, ◌++◌, length, drop, map, replicate, nat_lt, nat_le, if◌then◌else◌, refl}
use Rattle.std.proofs.Common.{ap}
use Rattle.byteorder.specs.Endian.{big_number}
use Rattle.binlog_wire.specs.declared.error.Invalid.{Invalid}
use Rattle.binlog_wire.specs.declared.error.Invalid.TheVariants.{FieldRange}
use Rattle.binlog_wire.specs.Bits.{bytes_of_bits}
use Rattle.binlog_wire.specs.Formats.{Format, anywhere, number, allowed, block, silent, then, made}
use Rattle.binlog_variable_fields.specs.Formats.{tested}
use Rattle.binlog_columns.specs.declared.layout.Layout.{Layout}
use Rattle.binlog_columns.specs.declared.layout.Layout.TheVariants.{Nothing, Number, Bits, Timestamp2, DateTime2, Time2, Decimal, Counted, Vector}
use Rattle.binlog_values.specs.BigNumbers.{big}

-- The content of a value.
pub data Content : Type 0 where
  nothing : Content
  of_number : ℕ → Content
  of_bytes : List ℕ → Content

-- The number of a content; 0 if it has none.
abbrev pub number_in : Content → ℕ
number_in nothing = 0
number_in (of_number n) = n
number_in (of_bytes s) = 0

-- The bytes of a content; none if it has none.
abbrev pub bytes_in : Content → List ℕ
bytes_in nothing = []
bytes_in (of_number n) = []
bytes_in (of_bytes s) = s

-- The refusal of a value that is complete and out of range.
abbrev pub out_of_range : Invalid
out_of_range = FieldRange 0

-- ---- fractions of a second

-- The number of bytes of a fraction of this many decimal digits: two digits a byte.
abbrev pub fraction_len : ℕ → ℕ
fraction_len digits = (digits + 1) / 2

-- The fraction in the last bytes of a number.
abbrev pub fraction_of : ℕ → ℕ → ℕ
fraction_of digits n = n % 256 ^ fraction_len digits

-- The number before its fraction.
abbrev pub before_fraction : ℕ → ℕ → ℕ
before_fraction digits n = n / 256 ^ fraction_len digits

-- The fraction is below one second.
abbrev pub is_below_second : ℕ → ℕ → Bool
is_below_second digits n = nat_lt (fraction_of digits n) (100 ^ fraction_len digits)

-- ---- temporal values

-- DATETIME2: the date and the time are at least 2^39, since the sign bit is always set, and the fraction is below one
-- second.
abbrev pub is_datetime2 : ℕ → ℕ → Bool
is_datetime2 digits n = nat_le (2 ^ 39) (before_fraction digits n) && is_below_second digits n

-- TIME2: the number that encodes zero. Smaller numbers are negative times.
abbrev pub time2_zero : ℕ → ℕ
time2_zero digits = 2 ^ 23 * 256 ^ fraction_len digits

-- The distance from zero, as a time and a fraction. It is taken over all bytes, so the fraction of a negative time
-- borrows from the seconds.
abbrev pub time2_distance : ℕ → ℕ → ℕ
time2_distance digits n = if nat_lt n (time2_zero digits) then time2_zero digits - n else n - time2_zero digits

-- TIME2: the fraction is below one second, and the reserved bit of the time isn't set.
abbrev pub is_time2 : ℕ → ℕ → Bool
is_time2 digits n = is_below_second digits (time2_distance digits n) && nat_lt (before_fraction digits (time2_distance digits n)) (2 ^ 22)

-- ---- decimal numbers

-- The number of bytes of a group of this many decimal digits, 0 to 9.
abbrev pub digits_len : ℕ → ℕ
digits_len digits = if digits == 9 then 4 else (digits + 1) / 2

-- The number of digits of each group, from left to right. The first group, before the point, and the last one, after
-- it, have fewer than nine digits, possibly none; all others have nine.
abbrev pub groups : ℕ → ℕ → List ℕ
groups precision scale = ((precision - scale) % 9) ∷ (replicate ((precision - scale) / 9 + scale / 9) 9 ++ (scale % 9) ∷ [])

-- The number of bytes of groups.
abbrev pub groups_len : List ℕ → ℕ
groups_len [] = 0
groups_len (digits ∷ others) = digits_len digits + groups_len others

-- The number of bytes of a decimal number.
abbrev pub decimal_len : ℕ → ℕ → ℕ
decimal_len precision scale = groups_len (groups precision scale)

-- The bytes of the digits. The top bit of the first byte, which is set if the number isn't negative, is removed; in a
-- negative number all bits are complemented first.
abbrev pub magnitude : List ℕ → List ℕ
magnitude [] = []
magnitude (b ∷ s) = if nat_le 128 b then (b - 128) ∷ s else (127 - b) ∷ map (λ c. 255 - c) s

-- Each group is a number with at most as many digits as the group has.
abbrev pub groups_fit : List ℕ → List ℕ → Bool
groups_fit [] s = true
groups_fit (digits ∷ others) s = nat_lt (big_number (digits_len digits) s) (10 ^ digits) && groups_fit others (drop (digits_len digits) s)

-- The bytes are those of a decimal number of this precision and scale.
abbrev pub is_decimal_bytes : ℕ → ℕ → List ℕ → Bool
is_decimal_bytes precision scale s = groups_fit (groups precision scale) (magnitude s)

-- ---- the formats

-- No bytes, and no content.
abbrev no_content : Format anywhere Content
no_content = record (silent {place = anywhere} nothing) {
  Fits = λ c. c ≡ nothing;
  writes = λ c r fits follows. (refl, refl);
  again = λ c fits. refl;
}

abbrev number_made : Format anywhere ℕ → Format anywhere Content
number_made f = made (λ n. of_number n) number_in f (λ s n r h. refl) (λ _. refl)

-- A number as content; no other content can be written.
abbrev pub as_number : Format anywhere ℕ → Format anywhere Content
as_number f = record (number_made f) {
  Fits = λ c. (of_number (number_in c) ≡ c) × f.Fits (number_in c);
  writes = λ c r fits follows. (number_made f).writes c r fits.1 follows;
  again = λ c fits. (number_made f).again c fits.1;
}

abbrev bytes_made : Format anywhere (List ℕ) → Format anywhere Content
bytes_made f = made (λ s. of_bytes s) bytes_in f (λ s t r h. refl) (λ _. refl)

-- Bytes as content; no other content can be written.
abbrev pub as_bytes : Format anywhere (List ℕ) → Format anywhere Content
as_bytes f = record (bytes_made f) {
  Fits = λ c. (of_bytes (bytes_in c) ≡ c) × f.Fits (bytes_in c);
  writes = λ c r fits follows. (bytes_made f).writes c r fits.1 follows;
  again = λ c fits. (bytes_made f).again c fits.1;
}

-- A number of k bytes, most significant byte first, for which a test holds.
abbrev pub tested_big : ℕ → (ℕ → Bool) → Format anywhere ℕ
tested_big k test = tested (big k) (λ _. refl) test out_of_range

-- A number of this many bits.
abbrev pub bits : ℕ → Format anywhere ℕ
bits count = tested_big (bytes_of_bits count) (λ n. nat_lt n (2 ^ count))

-- Seconds and a fraction of this many digits.
abbrev pub timestamp2 : ℕ → Format anywhere ℕ
timestamp2 digits = tested_big (4 + fraction_len digits) (is_below_second digits)

-- A date, a time and a fraction of this many digits.
abbrev pub datetime2 : ℕ → Format anywhere ℕ
datetime2 digits = tested_big (5 + fraction_len digits) (is_datetime2 digits)

-- A time and a fraction of this many digits.
abbrev pub time2 : ℕ → Format anywhere ℕ
time2 digits = tested_big (3 + fraction_len digits) (is_time2 digits)

-- The bytes of a decimal number.
abbrev pub decimal : ℕ → ℕ → Format anywhere (List ℕ)
decimal precision scale = tested (block (decimal_len precision scale)) (λ _. refl) (is_decimal_bytes precision scale) out_of_range

-- Bytes after their length in k bytes. A test has to hold for the length, before the bytes are read.
abbrev pub counted : ℕ → (ℕ → Bool) → Format anywhere (List ℕ)
counted k test = made {A = ℕ × List ℕ} (λ x. x.1) (λ t. (length t, t)) ((then) (allowed k test (λ _. out_of_range)) (λ n. block n)) (λ s x r h. ap (λ (n : ℕ). (n, x.1)) h.2.0) (λ t. refl)

-- The content of a value of this layout.
abbrev pub content_in : Layout → Format anywhere Content
content_in Nothing = no_content
content_in (Number len) = as_number (number len)
content_in (Bits count) = as_number (bits count)
content_in (Timestamp2 digits) = as_number (timestamp2 digits)
content_in (DateTime2 digits) = as_number (datetime2 digits)
content_in (Time2 digits) = as_number (time2 digits)
content_in (Decimal precision scale) = as_bytes (decimal precision scale)
content_in (Counted prefix max) = as_bytes (counted prefix (λ n. nat_le n max))
content_in (Vector prefix) = as_bytes (counted prefix (λ n. n % 4 == 0))
