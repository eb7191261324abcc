-- Dates and times as text.
use Rattle.std.specs.Prelude.{ℕ, ◌-◌, ◌/◌, ◌^◌, ◌==◌, List, [], ◌∷◌, ◌++◌, nat_lt, if◌then◌else◌}
use Rattle.std.specs.Fmt.{decimal}
use Rattle.binlog_values.specs.Texts.{digits_text}

-- A number in two digits or more.
abbrev pub two_digits : ℕ → List ℕ
two_digits n = if nat_lt n 100 then digits_text 2 n else decimal n

-- A year in four digits or more.
abbrev pub year_text : ℕ → List ℕ
year_text year = if nat_lt year 10000 then digits_text 4 year else decimal year

-- A date: `2026-11-25`.
unfoldable pub date_text : ℕ → ℕ → ℕ → List ℕ
date_text year month day = year_text year ++ 45 ∷ [] ++ two_digits month ++ 45 ∷ [] ++ two_digits day

-- A time: `06:30:00`.
unfoldable pub clock_text : ℕ → ℕ → ℕ → List ℕ
clock_text hour minute second = two_digits hour ++ 58 ∷ [] ++ two_digits minute ++ 58 ∷ [] ++ two_digits second

-- A fraction in this many digits, at most six, of these microseconds: `.000250`. No digits: nothing.
abbrev pub fraction_text : ℕ → ℕ → List ℕ
fraction_text digits microseconds = if digits == 0 then [] else 46 ∷ [] ++ digits_text digits (microseconds / 10 ^ (6 - digits))
