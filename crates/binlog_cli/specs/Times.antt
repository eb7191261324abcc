-- The times that words state.
use Rattle.std.specs.Prelude.{◌≡◌, ◌⊎◌, ℕ, ◌/◌, ◌==◌, Bool, true, false, ℤ, pos, negsuc, List, Option, Some, None, Result, Ok, Err, ⊤}
use Rattle.std.specs.List.{list_any}
use Rattle.jiff_core.specs.declared.error.Error.{Error}
use Rattle.jiff_core.specs.declared.error.Error.TheVariants.{Missing}
use Rattle.jiff_core.specs.declared.civil.datetime.DateTime.{DateTime}
use Rattle.jiff.specs.Words.{parse_timestamp, parse_datetime, date_parts, time_parts, civil_nanos, IsTimestampNanos}

-- ---- instants, in nanoseconds since 1970

-- The instant of a civil time in UTC.
pub record IsCivilInstant (text : List ℕ) (nanos : ℤ) : Type 0 where
  pub time : DateTime
  pub parsed : parse_datetime text ≡ Ok (date_parts time.date, time_parts time.time)
  pub same : nanos ≡ civil_nanos time
  pub fits : IsTimestampNanos nanos

-- A text is no civil time, or one out of the range of instants.
abbrev pub IsNoCivilInstant : List ℕ → Type 0
IsNoCivilInstant text =
    ((error : Error) × (parse_datetime text ≡ Err error))
    ⊎ ((time : DateTime) × (parse_datetime text ≡ Ok (date_parts time.date, time_parts time.time)) × (IsTimestampNanos (civil_nanos time) → ⊥))

-- By what a text is as a time with an offset from UTC: the instant of that time; or, if it has no offset, of the civil time in UTC.
abbrev pub IsInstantBy : Result ℤ Error → List ℕ → ℤ → Type 0
IsInstantBy (Ok instant) text nanos = nanos ≡ instant
IsInstantBy (Err (Missing part)) text nanos = IsCivilInstant text nanos
IsInstantBy (Err error) text nanos = ⊥

abbrev pub IsNoInstantBy : Result ℤ Error → List ℕ → Type 0
IsNoInstantBy (Ok instant) text = ⊥
IsNoInstantBy (Err (Missing part)) text = IsNoCivilInstant text
IsNoInstantBy (Err error) text = ⊤

abbrev pub IsInstant : List ℕ → ℤ → Type 0
IsInstant text nanos = IsInstantBy (parse_timestamp text) text nanos

abbrev pub IsNoInstant : List ℕ → Type 0
IsNoInstant text = IsNoInstantBy (parse_timestamp text) text

-- ---- seconds since 1970

-- The whole seconds of an instant; 0 for one before 1970.
abbrev pub seconds_of : ℤ → ℕ
seconds_of (pos nanos) = nanos / 1000000000
seconds_of (negsuc nanos) = 0

-- A text has a `[`, with which a zone begins.
abbrev pub has_zone : List ℕ → Bool
has_zone text = list_any (λ (byte : ℕ). byte == 91) text

-- A text without a zone states a time.
pub record IsSeconds (text : List ℕ) (seconds : ℕ) : Type 0 where
  pub plain : has_zone text ≡ false
  pub nanos : ℤ
  pub instant : IsInstant text nanos
  pub same : seconds ≡ seconds_of nanos

-- A text has a zone, or states no time.
abbrev pub IsNoSeconds : List ℕ → Type 0
IsNoSeconds text = (has_zone text ≡ true) ⊎ IsNoInstant text

-- The time of an option with this text, if it is given.
abbrev pub StatesTime : Option (List ℕ) → Option ℕ → Type 0
StatesTime None time = time ≡ None
StatesTime (Some text) (Some seconds) = IsSeconds text seconds
StatesTime (Some text) None = ⊥

-- An option is given with a text that has a zone, or states no time.
abbrev pub StatesNoTime : Option (List ℕ) → Type 0
StatesNoTime None = ⊥
StatesNoTime (Some text) = IsNoSeconds text
