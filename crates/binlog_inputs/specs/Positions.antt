-- Which positions are taken of each file of a command.
use Rattle.std.specs.Prelude.{ℕ, Bool, true, false, Option, Some, None}
use Rattle.binlog_filters.specs.declared.filter.Filter.{Filter}
use Rattle.binlog_inputs.specs.declared.positions.Positions.{Positions}

-- Those that a filter takes.
abbrev pub positions_of : Filter → Positions
positions_of filter = record { start = filter.start_position; stop = filter.stop_position }

-- The filter, with these positions.
abbrev pub with_positions : Filter → Positions → Filter
with_positions filter positions = record filter { start_position = positions.start; stop_position = positions.stop }

abbrev start_if : Bool → ℕ → ℕ
start_if true position = position
start_if false position = 0

abbrev stop_if : Bool → Option ℕ → Option ℕ
stop_if true position = position
stop_if false position = None

-- Of several files: the start position is one of the first file, and the stop position one of the last file.
abbrev pub in_file : (asked : Positions) → (is_first is_last : Bool) → Positions
in_file asked is_first is_last = record { start = start_if is_first asked.start; stop = stop_if is_last asked.stop }

abbrev none_before : Option ℕ → Option ℕ
none_before None = None
none_before (Some position) = Some 0

-- Of the files of a log that is followed: these of the file that is named. Another one is behind it, and so behind both positions.
abbrev pub in_followed : (named : Positions) → (is_named : Bool) → Positions
in_followed named true = named
in_followed named false = record { start = 0; stop = none_before named.stop }
