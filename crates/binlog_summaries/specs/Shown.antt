-- The rows that are shown of sorted statistics.
use Rattle.std.specs.Prelude.{ℕ, List, take, nat_lt, Option, Some, None, if◌then◌else◌}

-- The first ones, as many as are asked for; all if no number is.
abbrev pub shown : {X : Type 0} → (top : Option ℕ) → List X → List X
shown None rows = rows
shown (Some top) rows = take top rows

-- How many of so many rows are shown.
abbrev pub shown_count : (count : ℕ) → (top : Option ℕ) → ℕ
shown_count count None = count
shown_count count (Some top) = if nat_lt top count then top else count
