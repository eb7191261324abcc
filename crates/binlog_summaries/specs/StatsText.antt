-- The text of `binlog stats`.
use Rattle.std.specs.Prelude.{◌≡◌, ◌==◌, if◌then◌else◌, ◌*◌, ◌/◌, max, suc, zero, ℕ, pos, List, [], ◌++◌, codes, decimal, Option, Some, None, unwrap_or, slice_index_or}
use Rattle.std.specs.Io.KnownBytes.{Appends}
use Rattle.jiff_core.specs.declared.civil.datetime.DateTime.{DateTime}
use Rattle.jiff.specs.Words.{civil_nanos, iso_datetime_text}
use Rattle.binlog_event_types.specs.NamesOfNumbers.{name_of_number}
use Rattle.binlog_commands.specs.Statistics.{total}
use Rattle.binlog_commands.specs.declared.stats.Stats.{Stats}
use Rattle.binlog_commands.specs.declared.stats.Largest.{Largest}

-- An output grew by such a text.
pub record Writes (Is : List ℕ → Type 0) (old new : Option (List ℕ)) : Type 0 where
  pub text : List ℕ
  pub is : Is text
  pub appended : Appends old new text

-- A time in UTC as RFC 3339 writes it: the date, `T`, the time of day, and `Z`.
pub record IsTime (seconds : ℕ) (text : List ℕ) : Type 0 where
  pub shown : DateTime
  pub same : civil_nanos shown ≡ pos (seconds * 1000000000)
  pub is : text ≡ iso_datetime_text shown ++ codes "Z"

-- The line of a time, and nothing for none.
abbrev pub IsTimeLine : (word : List ℕ) → Option ℕ → List ℕ → Type 0
IsTimeLine word None text = text ≡ []
IsTimeLine word (Some seconds) text = (time : List ℕ) × IsTime seconds time × (text ≡ word ++ codes " " ++ time ++ codes "\n")

-- The name of a type of either server, or the number if no type has it.
unfoldable pub type_text : ℕ → List ℕ
type_text number = unwrap_or (name_of_number number) (decimal number)

-- The line of the largest event, and nothing for none.
abbrev pub largest_line : Option Largest → List ℕ
largest_line None = []
largest_line (Some largest) = codes "largest event " ++ decimal largest.index ++ codes " of " ++ decimal largest.size ++ codes " bytes, " ++ type_text largest.event_type ++ codes "\n"

-- The row of a type, if it has events: their number, their bytes, and the share of these in all bytes, in hundredths.
abbrev pub row_of : (number events bytes all : ℕ) → List ℕ
row_of number events bytes all =
    if events == 0 then []
    else codes "type " ++ type_text number ++ codes " " ++ decimal events ++ codes " events " ++ decimal bytes ++ codes " bytes " ++ decimal ((bytes * 100) / max all 1) ++ codes "%\n"

-- The rows of the types below a number.
unfoldable pub rows_below : ℕ → Stats → ℕ → List ℕ
rows_below zero stats all = []
rows_below (suc number) stats all = rows_below number stats all ++ row_of number (slice_index_or stats.events number 0) (slice_index_or stats.bytes number 0) all

abbrev pub number_line : (word : List ℕ) → ℕ → List ℕ
number_line word number = word ++ codes " " ++ decimal number ++ codes "\n"

-- The lines of the counts of all types.
abbrev pub head_lines : Stats → List ℕ
head_lines stats = number_line (codes "events") (total stats.events) ++ number_line (codes "bytes") (total stats.bytes) ++ number_line (codes "damaged") stats.errors ++ number_line (codes "transactions") stats.transactions

-- The whole text: the counts of all types, the times, the largest event, and the rows of the types in ascending order.
pub record IsStatsText (stats : Stats) (text : List ℕ) : Type 0 where
  pub first : List ℕ
  pub is_first : IsTimeLine (codes "first") stats.first_time first
  pub last : List ℕ
  pub is_last : IsTimeLine (codes "last") stats.last_time last
  pub is : text ≡ head_lines stats ++ first ++ last ++ largest_line stats.largest ++ rows_below 256 stats (total stats.bytes)
