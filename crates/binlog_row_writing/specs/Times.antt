-- The numbers that are stored for dates and times, by their parts.
-- Source: MySQL's documentation of its source code, `my_time.h`.
use Rattle.std.specs.Prelude.{ℕ, ◌+◌, ◌-◌, ◌*◌, ◌/◌, ◌%◌, ◌^◌, ◌==◌, ◌&&◌, Bool, true, false, nat_lt, nat_le, if◌then◌else◌, Ok, Err}
use Rattle.binlog_values.specs.Contents.{fraction_len, time2_zero}
use Rattle.binlog_row_writing.specs.Numbers.{Numbered}
use Rattle.binlog_row_writing.specs.declared.new_value.NewValue.{NewValue}
use Rattle.binlog_row_writing.specs.declared.new_value.NewValue.TheVariants.{Date, Timestamp, Time, DateTime}
use Rattle.binlog_row_writing.specs.declared.new_value.NewDate.{NewDate}
use Rattle.binlog_row_writing.specs.declared.new_value.NewTime.{NewTime}
use Rattle.binlog_row_writing.specs.declared.row_write_error.RowWriteErrorKind.TheVariants.{WrongType, OutOfRange}

-- ---- fractions

-- Microseconds that have no digits beyond this many, at most six.
abbrev pub is_fraction : ℕ → ℕ → Bool
is_fraction digits microseconds = nat_le digits 6 && nat_lt microseconds 1000000 && microseconds % 10 ^ (6 - digits) == 0

-- Two digits a byte.
abbrev pub fraction_number : ℕ → ℕ → ℕ
fraction_number digits microseconds = microseconds / 100 ^ (3 - fraction_len digits)

-- A number, with a fraction behind it.
abbrev pub with_fraction : ℕ → ℕ → ℕ → ℕ
with_fraction digits n microseconds = n * 256 ^ fraction_len digits + fraction_number digits microseconds

-- ---- DATE

abbrev pub is_date : NewDate → Bool
is_date date = nat_lt date.month 16 && nat_lt date.day 32

abbrev pub date_bits : NewDate → ℕ
date_bits date = date.year * 512 + date.month * 32 + date.day

abbrev pub date_number : NewValue → Numbered
date_number (Date date) = if is_date date then Ok (date_bits date) else Err OutOfRange
date_number _ = Err WrongType

-- ---- TIME and DATETIME without fractions: decimal digits

abbrev pub is_digital : NewTime → Bool
is_digital time = nat_lt time.minute 100 && nat_lt time.second 100 && time.microsecond == 0

abbrev pub time_digits : NewTime → ℕ
time_digits time = time.hour * 10000 + time.minute * 100 + time.second

-- Two's complement of three bytes; zero has no sign.
abbrev pub time_bits : Bool → ℕ → Numbered
time_bits false digits = if nat_lt digits (2 ^ 23) then Ok digits else Err OutOfRange
time_bits true digits = if nat_le 1 digits && nat_le digits (2 ^ 23) then Ok (2 ^ 24 - digits) else Err OutOfRange

abbrev pub time_number : NewValue → Numbered
time_number (Time is_negative time) = if is_digital time then time_bits is_negative (time_digits time) else Err OutOfRange
time_number _ = Err WrongType

abbrev pub datetime_digits : NewDate → NewTime → ℕ
datetime_digits date time = (date.year * 10000 + date.month * 100 + date.day) * 1000000 + time_digits time

abbrev pub datetime_number : NewValue → Numbered
datetime_number (DateTime date time) =
    if nat_lt date.month 100 && nat_lt date.day 100 && nat_lt time.hour 100 && is_digital time then Ok (datetime_digits date time) else Err OutOfRange
datetime_number _ = Err WrongType

-- ---- TIMESTAMP and TIMESTAMP2

abbrev pub timestamp_number : NewValue → Numbered
timestamp_number (Timestamp seconds microseconds) = if microseconds == 0 then Ok seconds else Err OutOfRange
timestamp_number _ = Err WrongType

abbrev pub timestamp2_number : ℕ → NewValue → Numbered
timestamp2_number digits (Timestamp seconds microseconds) =
    if nat_lt seconds (2 ^ 32) && is_fraction digits microseconds then Ok (with_fraction digits seconds microseconds) else Err OutOfRange
timestamp2_number digits _ = Err WrongType

-- ---- DATETIME2 and TIME2

abbrev pub is_clock : ℕ → NewTime → Bool
is_clock digits time = nat_lt time.minute 64 && nat_lt time.second 64 && is_fraction digits time.microsecond

-- The hour, and six bits each for the minute and the second.
abbrev pub clock_bits : NewTime → ℕ
clock_bits time = time.hour * 2 ^ 12 + time.minute * 2 ^ 6 + time.second

abbrev pub is_datetime2_date : NewDate → ℕ → Bool
is_datetime2_date date hour = nat_lt date.month 13 && nat_lt date.day 32 && nat_lt hour 32 && nat_lt (13 * date.year + date.month) (2 ^ 17)

-- The sign, which is always set; 13 times the year plus the month; five bits for the day, five for the hour, and six each
-- for the minute and the second.
abbrev pub datetime2_bits : NewDate → NewTime → ℕ
datetime2_bits date time = 2 ^ 39 + (13 * date.year + date.month) * 2 ^ 22 + date.day * 2 ^ 17 + clock_bits time

abbrev pub datetime2_number : ℕ → NewValue → Numbered
datetime2_number digits (DateTime date time) =
    if is_datetime2_date date time.hour && is_clock digits time then Ok (with_fraction digits (datetime2_bits date time) time.microsecond) else Err OutOfRange
datetime2_number digits _ = Err WrongType

-- The distance from zero, over all bytes; zero has no sign.
abbrev pub time2_bits : ℕ → Bool → ℕ → Numbered
time2_bits digits false distance = Ok (time2_zero digits + distance)
time2_bits digits true distance = if distance == 0 then Err OutOfRange else Ok (time2_zero digits - distance)

abbrev pub time2_number : ℕ → NewValue → Numbered
time2_number digits (Time is_negative time) =
    if nat_lt time.hour 1024 && is_clock digits time then time2_bits digits is_negative (with_fraction digits (clock_bits time) time.microsecond) else Err OutOfRange
time2_number digits _ = Err WrongType
