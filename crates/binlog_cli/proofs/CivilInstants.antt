-- The instants of civil times.
use Rattle.std.proofs.Common.{◌≡◌, inr, ℕ, List, Option, Some, None, Ok, MatchOption}
use Rattle.jiff_core.specs.declared.civil.datetime.DateTime.{DateTime}
use Rattle.jiff_core.specs.declared.timestamp.Timestamp.{Timestamp}
use Rattle.jiff.specs.Words.{parse_datetime, date_parts, time_parts, civil_nanos, IsTimestampNanos}
use Rattle.binlog_cli.specs.Times.{IsCivilInstant, IsNoCivilInstant}

pub civil_instant : (text : List ℕ) (time : DateTime) (found : Option Timestamp) → parse_datetime text ≡ Ok (date_parts time.date, time_parts time.time)
    → MatchOption found (IsTimestampNanos (civil_nanos time) → ⊥) (λ instant. (instant.nanosecond ≡ civil_nanos time) × IsTimestampNanos instant.nanosecond)
    → MatchOption found (IsNoCivilInstant text) (λ instant. IsCivilInstant text instant.nanosecond)
civil_instant text time None parsed none = inr (time, parsed, none)
civil_instant text time (Some instant) parsed is = record { time = time; parsed = parsed; same = is.0; fits = is.1 }
