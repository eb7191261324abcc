-- Dates and times as text, by their packed numbers. Source: MySQL's documentation of its source code, `my_time.h`.
use Rattle.std.specs.Prelude.{ℕ, ◌/◌, ◌%◌, ◌^◌, ◌==◌, ℤ, pos, List, [], ◌∷◌, ◌++◌, unsigned_abs, int_lt, if◌then◌else◌}
use Rattle.binary_json_lines.specs.Digits.{padded_text, sign_text}

-- A date: a month, counted through years of thirteen, and five bits for the day.
unfoldable pub date_text : ℕ → List ℕ
date_text n = padded_text 4 (n / 2 ^ 5 / 13) ++ 45 ∷ [] ++ padded_text 2 (n / 2 ^ 5 % 13) ++ 45 ∷ [] ++ padded_text 2 (n % 2 ^ 5)

-- A clock time of this hour: six bits each for the minute and the second, and 24 for the microsecond.
unfoldable pub clock_text : ℕ → ℕ → List ℕ
clock_text hour n =
    padded_text 2 hour ++ 58 ∷ [] ++ padded_text 2 (n / 2 ^ 30 % 2 ^ 6) ++ 58 ∷ [] ++ padded_text 2 (n / 2 ^ 24 % 2 ^ 6) ++ 46 ∷ [] ++ padded_text 6 (n % 2 ^ 24)

-- The absolute value of a packed number: TIME is 11 and has ten bits for the hour. The other types have five, and a date above them,
-- which is all that DATE, 10, shows.
unfoldable pub size_text : ℕ → ℕ → List ℕ
size_text column n =
    if column == 11 then clock_text (n / 2 ^ 36 % 2 ^ 10) n
    else if column == 10 then date_text (n / 2 ^ 36 / 2 ^ 5)
    else date_text (n / 2 ^ 36 / 2 ^ 5) ++ 32 ∷ [] ++ clock_text (n / 2 ^ 36 % 2 ^ 5) n

-- A TIMESTAMP, DATE, TIME or DATETIME.
unfoldable pub time_text : ℕ → ℤ → List ℕ
time_text column n = sign_text (int_lt n (pos 0)) ++ size_text column (unsigned_abs n)
