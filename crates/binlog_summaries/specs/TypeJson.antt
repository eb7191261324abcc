-- The lines of JSON of statistics by type.
use Rattle.std.specs.Prelude.{ℕ, ◌==◌, suc, zero, List, [], ◌∷◌, ◌++◌, codes, slice_index_or, if◌then◌else◌}
use Rattle.json.specs.Token.{Token, string}
use Rattle.json_line.specs.Tokens.{or_null, member, object}
use Rattle.binlog_event_types.specs.NamesOfNumbers.{name_of_number}
use Rattle.binlog_commands.specs.Statistics.{total}
use Rattle.binlog_commands.specs.declared.stats.Largest.{Largest}
use Rattle.binlog_commands.specs.declared.stats.Stats.{Stats}
use Rattle.binlog_summaries.specs.JsonLines.{number_member, time_member, line_of}

-- A text as a string.
abbrev pub string_value : List ℕ → List Token
string_value text = string text ∷ []

-- The name of the type with this number, or null if no type has it.
unfoldable pub name_value : ℕ → List Token
name_value number = or_null string_value (name_of_number number)

-- The number and the name of a type.
abbrev pub type_members : ℕ → List Token
type_members number = number_member (codes "type") number ++ member (codes "name") (name_value number)

-- The largest event: its index in its log, its bytes, and its type.
abbrev pub largest_members : Largest → List Token
largest_members largest = number_member (codes "index") largest.index ++ number_member (codes "bytes") largest.size ++ type_members largest.event_type

abbrev pub largest_object : Largest → List Token
largest_object largest = object (largest_members largest)

-- The counts of all types.
abbrev pub counts_members : Stats → List Token
counts_members stats =
    number_member (codes "events") (total stats.events) ++ number_member (codes "bytes") (total stats.bytes) ++ number_member (codes "damaged") stats.errors
    ++ number_member (codes "transactions") stats.transactions

-- The times of the first and of the last event.
abbrev pub times_members : Stats → List Token
times_members stats = time_member (codes "first_time") stats.first_time ++ time_member (codes "last_time") stats.last_time

-- The object above the types: the counts of all, the times, and the largest event.
abbrev pub types_object : Stats → List Token
types_object stats = object (counts_members stats ++ times_members stats ++ member (codes "largest") (or_null largest_object stats.largest))

-- The object of a type: its number, its name, and the counts of its events and of their bytes.
abbrev pub type_object : (number events bytes : ℕ) → List Token
type_object number events bytes = object (type_members number ++ number_member (codes "events") events ++ number_member (codes "bytes") bytes)

-- The line of a type, and nothing if it has no events.
abbrev pub type_line : (number events bytes : ℕ) → List ℕ
type_line number events bytes = if events == 0 then [] else line_of (type_object number events bytes)

-- The lines of the types below a number.
unfoldable pub lines_below : ℕ → Stats → List ℕ
lines_below zero stats = []
lines_below (suc number) stats = lines_below number stats ++ type_line number (slice_index_or stats.events number 0) (slice_index_or stats.bytes number 0)

-- The whole text: the types with events are in ascending order of their numbers.
abbrev pub types_json : Stats → List ℕ
types_json stats = line_of (types_object stats) ++ lines_below 256 stats
