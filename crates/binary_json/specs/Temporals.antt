-- The parts of the absolute value of a packed number. Source: MySQL's documentation of its source code, `my_time.h`.
use Rattle.std.specs.Prelude.{ℕ, ◌/◌, ◌%◌, ◌^◌, ◌==◌, if◌then◌else◌}

-- The date: the month, counted through years of 13, and five bits for the day. TIME, 11, has none.
abbrev pub date_of : ℕ → ℕ → ℕ
date_of column n = if column == 11 then 0 else n / 2 ^ 41

-- The hour: ten bits of a TIME, and else five.
abbrev pub hour_of : ℕ → ℕ → ℕ
hour_of column n = if column == 11 then n / 2 ^ 36 % 2 ^ 10 else n / 2 ^ 36 % 2 ^ 5
