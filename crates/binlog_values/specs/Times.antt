-- The parts of dates and times.
use Rattle.std.specs.Prelude.{ℕ, ◌+◌, ◌-◌, ◌*◌, ◌^◌, ◌==◌, nat_le, if◌then◌else◌}
use Rattle.binlog_values.specs.Contents.{fraction_len, fraction_of, before_fraction}

-- The fraction at the end of a number, in microseconds.
abbrev pub microseconds_of : ℕ → ℕ → ℕ
microseconds_of digits n = fraction_of digits n * 100 ^ (3 - fraction_len digits)

-- The date and the time of a DATETIME2 without the sign bit, which is always set: 13 times the year plus the month,
-- then five bits for the day, five for the hour, and six each for the minute and the second.
abbrev pub date_time_of : ℕ → ℕ → ℕ
date_time_of digits n = before_fraction digits n - 2 ^ 39

-- The distance from zero of a TIME, which is a two's complement number of three bytes: decimal digits of hours, minutes
-- and seconds.
abbrev pub time_distance : ℕ → ℕ
time_distance n = if nat_le (2 ^ 23) n then 2 ^ 24 - n else n

-- The year of a YEAR, which is a byte: 0, or the years since 1900.
abbrev pub year_of : ℕ → ℕ
year_of n = if n == 0 then 0 else 1900 + n
