-- The first number of an event that no GTID can have.
use Rattle.std.specs.Prelude.{◌≡◌, ◌⊎◌, ◌≤◌, ◌<◌, ◌^◌, ℕ, true, List, [], ◌∷◌}
use Rattle.binlog_variable_fields.specs.declared.gno_interval.GnoInterval.{GnoInterval}
use Rattle.binlog_gtids.specs.declared.previous_gtids_sid.PreviousGtidsSid.{PreviousGtidsSid}
use Rattle.binlog_gtids.specs.GnoSets.{is_within, is_held}

-- A GTID can have the number.
abbrev pub IsGno : ℕ → Type 0
IsGno n = (1 ≤ n) × (n < 2 ^ 63)

-- All numbers of the intervals.
abbrev pub AreGnos : List GnoInterval → Type 0
AreGnos is = (n : ℕ) → is_held is n ≡ true → IsGno n

-- All numbers of the entries.
abbrev pub AreListedGnos : List PreviousGtidsSid → Type 0
AreListedGnos [] = Unit {0}
AreListedGnos (e ∷ es) = AreGnos e.intervals × AreListedGnos es

-- n is in the interval, no GTID can have it, and one can have each lower number of the interval.
pub record IsFirstBad (i : GnoInterval) (n : ℕ) : Type 0 where
  pub within : is_within i n ≡ true
  pub bad : IsGno n → ⊥
  pub before : (m : ℕ) → is_within i m ≡ true → m < n → IsGno m

-- n is the first such number of an interval, and the intervals before it have none.
abbrev pub IsFirstBadIn : List GnoInterval → ℕ → Type 0
IsFirstBadIn [] n = ⊥
IsFirstBadIn (i ∷ is) n = IsFirstBad i n ⊎ (AreGnos (i ∷ []) × IsFirstBadIn is n)

-- n is the first such number of an entry, and the entries before it have none.
abbrev pub IsFirstBadListed : List PreviousGtidsSid → ℕ → Type 0
IsFirstBadListed [] n = ⊥
IsFirstBadListed (e ∷ es) n = IsFirstBadIn e.intervals n ⊎ (AreGnos e.intervals × IsFirstBadListed es n)
