-- Dates and times as text.
use Rattle.std.specs.Prelude.{ℕ, ◌+◌, ◌/◌, ◌%◌, ◌==◌, Bool, List, [], ◌∷◌, ◌++◌, take, nat_lt, if◌then◌else◌}
use Rattle.std.specs.Fmt.{decimal}
use Rattle.json_line.specs.Buffers.{minus}

-- The two digits of a number below 100.
abbrev pub pair : ℕ → List ℕ
pair n = (48 + n / 10) ∷ (48 + n % 10) ∷ []

-- A number in two digits or more.
abbrev pub two_digits : ℕ → List ℕ
two_digits n = if nat_lt n 100 then pair n else decimal n

-- A year in four digits or more.
abbrev pub year_text : ℕ → List ℕ
year_text year = if nat_lt year 10000 then pair (year / 100) ++ pair (year % 100) else decimal year

-- A date: `2026-11-25`.
unfoldable pub date_text : ℕ → ℕ → ℕ → List ℕ
date_text year month day = year_text year ++ (45 ∷ (two_digits month ++ (45 ∷ two_digits day)))

-- A time: `06:30:00`.
unfoldable pub clock_text : ℕ → ℕ → ℕ → List ℕ
clock_text hour minute second = two_digits hour ++ (58 ∷ (two_digits minute ++ (58 ∷ two_digits second)))

-- The last six digits of a number.
abbrev pub six_digits : ℕ → List ℕ
six_digits n = pair (n / 10000 % 100) ++ (pair (n / 100 % 100) ++ pair (n % 100))

-- A fraction in this many digits, at most six, of these microseconds: `.000250`. No digits: nothing.
unfoldable pub fraction_text : ℕ → ℕ → List ℕ
fraction_text digits microseconds = if digits == 0 then [] else 46 ∷ take digits (six_digits microseconds)

-- A time with its sign and its fraction.
unfoldable pub time_text : Bool → ℕ → ℕ → ℕ → ℕ → ℕ → List ℕ
time_text is_negative hour minute second digits microseconds = minus is_negative ++ (clock_text hour minute second ++ fraction_text digits microseconds)

-- A date and a time with its fraction.
unfoldable pub date_time_text : ℕ → ℕ → ℕ → ℕ → ℕ → ℕ → ℕ → ℕ → List ℕ
date_time_text year month day hour minute second digits microseconds =
    date_text year month day ++ (32 ∷ (clock_text hour minute second ++ fraction_text digits microseconds))
