-- Where a log is among those that are undone.
use Rattle.std.specs.Prelude.{ℕ, ◌+◌, ◌==◌, Bool, true, false, Option, None}
use Rattle.binlog_undo_command.specs.declared.log_place.LogPlace.{LogPlace}

-- Of the log with this index, from 0, of so many logs.
abbrev pub place_at : (count index : ℕ) → LogPlace
place_at count index = record { is_first = index == 0; is_last = index + 1 == count }

abbrev start_if : Bool → ℕ → ℕ
start_if true position = position
start_if false position = 0

abbrev stop_if : Bool → Option ℕ → Option ℕ
stop_if true position = position
stop_if false position = None

-- The start position is one of the first log, and the stop position of the last one.
abbrev pub start_at : LogPlace → ℕ → ℕ
start_at place position = start_if place.is_first position

abbrev pub stop_at : LogPlace → Option ℕ → Option ℕ
stop_at place position = stop_if place.is_last position
