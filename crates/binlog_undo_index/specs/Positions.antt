-- Between which positions of a file transactions are undone.
use Rattle.std.specs.Prelude.{ℕ, Bool, false, ◌&&◌, ◌||◌, not, Option, Some, None, nat_le, nat_lt}
use Rattle.binlog_undo_index.specs.declared.rules.Positions.{Positions}

abbrev at_or_behind : Option ℕ → ℕ → Bool
at_or_behind None place = false
at_or_behind (Some stop) place = nat_le stop place

-- At the stop position or behind it.
abbrev pub is_past : Positions → ℕ → Bool
is_past positions place = at_or_behind positions.stop place

abbrev pub has_place : Positions → ℕ → Bool
has_place positions place = nat_le positions.start place && not (is_past positions place)

-- The position is within these bytes: behind the first one, and not behind the last one.
abbrev pub is_inside : ℕ → ℕ → ℕ → Bool
is_inside position begin end = nat_lt begin position && nat_lt position end

abbrev stops_inside : Option ℕ → ℕ → ℕ → Bool
stops_inside None begin end = false
stops_inside (Some stop) begin end = is_inside stop begin end

-- One of the positions is within these bytes.
abbrev pub splits : Positions → ℕ → ℕ → Bool
splits positions begin end = is_inside positions.start begin end || stops_inside positions.stop begin end
