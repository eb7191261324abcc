-- The lengths of intervals of time, as options state them.
use Rattle.std.specs.Prelude.{◌≡◌, ◌⊎◌, ℕ, ◌*◌, ◌<◌, ◌^◌, List, ◌++◌, codes}
use Rattle.std.specs.Str.Parse.{IsNumeral, without_leading_plus, digits_value}

-- A number in decimal, a plus may stand before it, of units of so many seconds: one second or more, and fewer than 2^32.
pub record IsCount (count : List ℕ) (unit seconds : ℕ) : Type 0 where
  pub digits : IsNumeral 10 (without_leading_plus count)
  pub is : seconds ≡ digits_value 10 (without_leading_plus count) * unit
  pub some : 0 < seconds
  pub fits : seconds < 2 ^ 32

-- A number behind which the letter of a unit stands.
abbrev pub IsCountOf : (letter : List ℕ) (unit : ℕ) → List ℕ → ℕ → Type 0
IsCountOf letter unit text seconds = (count : List ℕ) × (text ≡ count ++ letter) × IsCount count unit seconds

-- A number of seconds, minutes or hours.
abbrev pub IsLength : List ℕ → ℕ → Type 0
IsLength text seconds = IsCountOf (codes "s") 1 text seconds ⊎ (IsCountOf (codes "m") 60 text seconds ⊎ IsCountOf (codes "h") 3600 text seconds)

-- What is counted together are intervals of this length.
abbrev pub IsInterval : List ℕ → ℕ → Type 0
IsInterval name seconds = (length : List ℕ) × (name ≡ codes "time=" ++ length) × IsLength length seconds
