-- The GTIDs that an event adds to a set.
use Rattle.std.specs.Prelude.{ℕ, ◌+◌, ◌^◌, Bool, false, ◌&&◌, ◌||◌, List, [], ◌∷◌, Option, Some, None, nat_lt, nat_le, if◌then◌else◌}
use Rattle.std.specs.Option.{option_or}
use Rattle.binlog_variable_fields.specs.declared.gno_interval.GnoInterval.{GnoInterval}
use Rattle.binlog_gtids.specs.declared.previous_gtids_sid.PreviousGtidsSid.{PreviousGtidsSid}
use Rattle.binlog_gtids.specs.GnoSets.{is_within, is_held}
use Rattle.binlog_event_data.specs.declared.event_data.EventData.{EventData}
use Rattle.binlog_event_data.specs.declared.event_data.EventData.TheVariants as variants
use Rattle.binlog_gtid_sets.specs.GtidGroups.{Pair, pair_of, is_same}

-- The interval of one number.
abbrev pub only : ℕ → GnoInterval
only n = record { start = n; end = n + 1 }

-- The GTID is in one of the entries. An interval whose end isn't above its start has no numbers.
abbrev pub is_listed : List PreviousGtidsSid → Pair → ℕ → Bool
is_listed [] pair n = false
is_listed (entry ∷ entries) pair n = (is_same (pair_of entry.uuid entry.tag) pair && is_held entry.intervals n) || is_listed entries pair n

-- The first number of an interval that isn't from 1 to 2^63 - 1: its start, or 2^63.
abbrev pub bad_gno_in : GnoInterval → Option ℕ
bad_gno_in i =
    if nat_lt i.start i.end
    then (if nat_le 1 i.start && nat_lt i.start (2 ^ 63) then (if nat_lt (2 ^ 63) i.end then Some (2 ^ 63) else None) else Some i.start)
    else None

-- The first number of the intervals that isn't from 1 to 2^63 - 1.
abbrev pub bad_gno : List GnoInterval → Option ℕ
bad_gno [] = None
bad_gno (i ∷ is) = option_or (bad_gno_in i) (bad_gno is)

-- The first number of the entries that isn't from 1 to 2^63 - 1, in the order of the entries and their intervals.
abbrev pub bad_gno_listed : List PreviousGtidsSid → Option ℕ
bad_gno_listed [] = None
bad_gno_listed (entry ∷ entries) = option_or (bad_gno entry.intervals) (bad_gno_listed entries)

-- The event adds the GTID: it is that of a GTID event, or one of a PREVIOUS_GTIDS event. Other events add nothing.
abbrev pub is_added : EventData → Pair → ℕ → Bool
is_added (variants.GtidEvent event) pair n = is_same (pair_of event.sid event.tag) pair && is_within (only event.gno) n
is_added (variants.PreviousGtidsEvent event) pair n = is_listed event.sids pair n
is_added _ pair n = false

-- The first number that the event would add and that isn't from 1 to 2^63 - 1.
abbrev pub bad_gno_of : EventData → Option ℕ
bad_gno_of (variants.GtidEvent event) = bad_gno_in (only event.gno)
bad_gno_of (variants.PreviousGtidsEvent event) = bad_gno_listed event.sids
bad_gno_of _ = None
