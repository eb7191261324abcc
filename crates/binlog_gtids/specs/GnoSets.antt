-- Sets of transaction numbers (GNOs) of one source, as lists of intervals.
use Rattle.std.specs.Prelude.{ℕ, Bool, ◌&&◌, nat_lt, nat_le, false, ◌||◌, List, [], ◌∷◌, ◌^◌, ◌<◌, ◌≤◌, ⊤, not, suc, if◌then◌else◌}
use Rattle.binlog_variable_fields.specs.declared.gno_interval.GnoInterval.{GnoInterval}

-- n is in the interval.
abbrev pub is_within : GnoInterval → ℕ → Bool
is_within i n = nat_le i.start n && nat_lt n i.end

-- n is in one of the intervals.
abbrev pub is_held : List GnoInterval → ℕ → Bool
is_held [] n = false
is_held (i ∷ is) n = is_within i n || is_held is n

-- The intervals are ascending and apart. Each is not empty, ends at 2^63 at most, and starts above the end of the
-- previous one; the first starts above `low`. So between two intervals there is a number that isn't in the set.
abbrev pub AreApart : ℕ → List GnoInterval → Type 0
AreApart low [] = ⊤
AreApart low (i ∷ is) = (low < i.start) × (i.start < i.end) × (i.end ≤ 2 ^ 63) × AreApart i.end is

-- n is in an interval, or below one.
abbrev pub is_up_to_last : List GnoInterval → ℕ → Bool
is_up_to_last [] n = false
is_up_to_last (i ∷ is) n = nat_lt n i.end || is_up_to_last is n

-- n is missing: at least 1, below the greatest number of the set, and not in the set.
abbrev pub is_missing : List GnoInterval → ℕ → Bool
is_missing is n = nat_le 1 n && (is_up_to_last is n && not (is_held is n))

-- The number of intervals at the start that pass a test.
abbrev pub leading : (GnoInterval → Bool) → List GnoInterval → ℕ
leading p [] = 0
leading p (i ∷ is) = if p i then suc (leading p is) else 0

-- The number of ascending intervals that end below a number.
abbrev pub ending_below : ℕ → List GnoInterval → ℕ
ending_below n = leading (λ i. nat_lt i.end n)

-- The number of ascending intervals that start at a number or below it.
abbrev pub starting_up_to : ℕ → List GnoInterval → ℕ
starting_up_to n = leading (λ i. nat_le i.start n)
