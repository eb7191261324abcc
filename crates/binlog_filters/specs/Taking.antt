-- Which events a filter takes.
use Rattle.std.specs.Prelude.{◌≡◌, ◌⊎◌, ℕ, ◌+◌, ◌-◌, ◌^◌, min, if◌then◌else◌, ◌==◌, Bool, true, false, ◌&&◌, ◌||◌, not, List, [], ◌∷◌, length, Option, Some, None, is_none, Result, Ok, Err, nat_le, nat_lt}
use Rattle.std.specs.List.{list_any}
use Rattle.binlog_wire.specs.declared.error.Error.{Error}
use Rattle.binlog_wire.specs.declared.error.Error.TheVariants.{Memory, TooShortForChecksum, ChecksumMismatch}
use Rattle.binlog_event_format.specs.Headers.{header_of}
use Rattle.binlog_file.specs.Events.{EventView}
use Rattle.binlog_file.specs.Parts.{is_description}
use Rattle.binlog_file.specs.LogData.{ReadsLogData}
use Rattle.binlog_file.specs.declared.log_data.LogEventData.{LogEventData}
use Rattle.binlog_filters.specs.GtidFilters.{has_gtid_of}
use Rattle.binlog_file.specs.TableMapsInForce.{TableMaps}
use Rattle.binlog_visits.specs.TableMaps.{maps_behind}
use Rattle.binlog_filters.specs.Concerns.{is_concerned, is_in_statement, is_unknown}
use Rattle.binlog_filters.specs.Places.{start_of, behind}
use Rattle.binlog_filters.specs.Reading.{IsReadAs}
use Rattle.binlog_filters.specs.Tables.{ReadsConcern}
use Rattle.binlog_filters.specs.declared.concern.Concern.{Concern}
use Rattle.binlog_filters.specs.declared.concern.Concern.TheVariants.{Taken}
use Rattle.binlog_filters.specs.declared.state.FilterState.{FilterState}
use Rattle.binlog_filters.specs.declared.tables.TableFilter.{TableFilter}
use Rattle.binlog_filters.specs.declared.gtid_set.GtidSet.{GtidSet}
use Rattle.binlog_filters.specs.declared.filter.Filter.{Filter}

-- ---- the conditions

abbrev pub is_before : ℕ → Option ℕ → Bool
is_before n None = true
is_before n (Some stop) = nat_lt n stop

-- A position from the first one to before the last one, or one that isn't known.
abbrev pub is_in_positions : Filter → Option ℕ → Bool
is_in_positions filter None = true
is_in_positions filter (Some start) = nat_le filter.start_position start && is_before start filter.stop_position

abbrev pub is_in_times : Filter → ℕ → Bool
is_in_times filter time = nat_le filter.start_time time && is_before time filter.stop_time

abbrev pub is_one : Option ℕ → ℕ → Bool
is_one None n = true
is_one (Some id) n = id == n

abbrev pub is_of_server : Filter → ℕ → Bool
is_of_server filter id = is_one filter.server_id id

abbrev pub is_any : List ℕ → ℕ → Bool
is_any [] n = true
is_any (x ∷ xs) n = list_any (λ (y : ℕ). y == n) (x ∷ xs)

abbrev pub is_of_type : Filter → ℕ → Bool
is_of_type filter type = is_any filter.types.items type

-- The types of events that belong to the log and to no transaction: STOP, ROTATE, FORMAT_DESCRIPTION, PREVIOUS_GTIDS; of
-- MariaDB's own BINLOG_CHECKPOINT, GTID_LIST, START_ENCRYPTION.
abbrev pub is_of_log : ℕ → Bool
is_of_log type = (type == 3) || ((type == 4) || ((type == 15) || ((type == 35) || ((type == 161) || ((type == 163) || (type == 164))))))

-- Each condition takes the event that begins here, where `is_wanted` says so of its transaction.
abbrev pub meets_conditions : Filter → Option ℕ → EventView → Bool → Bool
meets_conditions filter start event is_wanted =
    let header = header_of event.frame in
    (is_wanted || is_of_log header.event_type)
    && (is_of_type filter header.event_type
    && (is_of_server filter header.server_id
    && (is_in_times filter header.timestamp
    && is_in_positions filter start)))

-- The event is taken that begins here, where `is_wanted` says so of its transaction, and `is_concerned` of its tables. A copy has each
-- description.
abbrev pub is_taken : Filter → Option ℕ → EventView → (is_wanted is_concerned : Bool) → Bool
is_taken filter start event is_wanted is_concerned = (filter.is_for_copy && is_description event.frame) || (is_concerned && meets_conditions filter start event is_wanted)

-- The filter has no condition, so that it takes each event. If it gets conditions, no event is taken in spite of them.
pub record HasNoCondition (filter : Filter) : Type 0 where
  pub from_start : filter.start_position ≡ 0
  pub to_end : filter.stop_position ≡ None
  pub from_first : filter.start_time ≡ 0
  pub to_last : filter.stop_time ≡ None
  pub any_server : filter.server_id ≡ None
  pub any_type : filter.types.items ≡ []
  pub includes_all : filter.include_gtids ≡ None
  pub excludes_none : filter.exclude_gtids ≡ None
  pub any_table : filter.tables ≡ None
  pub no_exception : filter.is_for_copy ≡ false
  pub no_begin : filter.takes_begins ≡ false

-- The same as a test: no positions, times, server, types, GTIDs or tables are asked for.
abbrev pub has_no_condition : Filter → Bool
has_no_condition filter = is_none filter.tables && (is_none filter.include_gtids && (is_none filter.exclude_gtids && ((length filter.types.items == 0)
    && (is_none filter.server_id && (is_none filter.stop_position && (is_none filter.stop_time && ((filter.start_position == 0) && (filter.start_time == 0))))))))

-- ---- transactions

-- The types of events with which a transaction begins: GTID, ANONYMOUS_GTID, GTID_TAGGED_LOG; of MariaDB's own GTID.
abbrev pub begins_transaction : ℕ → Bool
begins_transaction type = (type == 33) || ((type == 34) || ((type == 42) || (type == 162)))

-- The data has a GTID of the set, or there is no set.
abbrev pub is_included : Option GtidSet → (server_id : ℕ) → LogEventData → Bool
is_included None server_id x = true
is_included (Some set) server_id x = has_gtid_of set server_id x

-- The data has a GTID of the set.
abbrev pub is_excluded : Option GtidSet → (server_id : ℕ) → LogEventData → Bool
is_excluded None server_id x = false
is_excluded (Some set) server_id x = has_gtid_of set server_id x

-- A transaction is wanted that begins with this data, where `server_id` is that of the event's header: its GTID is included and not
-- excluded. One without a GTID is in no set, so it is wanted if no GTIDs are asked for.
abbrev pub wants : Filter → (server_id : ℕ) → LogEventData → Bool
wants filter server_id x = is_included filter.include_gtids server_id x && not (is_excluded filter.exclude_gtids server_id x)

-- The same for the result of reading the data.
abbrev pub wants_read : Filter → (server_id : ℕ) → Result (Option LogEventData) Error → Bool
wants_read filter server_id (Ok (Some x)) = wants filter server_id x
wants_read filter server_id (Ok None) = is_none filter.include_gtids
wants_read filter server_id (Err error) = is_none filter.include_gtids

-- Whether the transaction is wanted that begins with this event: by the data of the event, or by the error that its bytes give.
pub record WantsEvent (filter : Filter) (event : EventView) (now : Bool) : Type 0 where
  pub read : Result (Option LogEventData) Error
  pub reads : ReadsLogData event read
  pub wanted : IsReadAs (wants_read filter (header_of event.frame).server_id) read now

-- Whether the transaction of an event is wanted, if `was` says so of the event before it.
abbrev pub FollowsEvent : Filter → Bool → EventView → Result Bool Error → Type 0
FollowsEvent filter was event (Ok now) =
    ((begins_transaction (header_of event.frame).event_type ≡ false) × (now ≡ was))
    ⊎ ((begins_transaction (header_of event.frame).event_type ≡ true) × WantsEvent filter event now)
FollowsEvent filter was event (Err error) = error ≡ Memory

-- An event of any type can be damaged so, also that of a GTID. The other errors in the places of events are those of format descriptions, ROTATE
-- events and table maps whose bodies are refused.
abbrev pub may_hide_gtid : Error → Bool
may_hide_gtid TooShortForChecksum = true
may_hide_gtid (ChecksumMismatch stored computed) = true
may_hide_gtid _ = false

-- Whether the events behind an error are wanted, if `was` says so of those before it. If it may be in the place of a GTID, a transaction may
-- begin there whose GTID isn't known: it is wanted if no GTIDs are asked for.
abbrev pub wants_behind : Filter → Bool → Error → Bool
wants_behind filter was error = was || (may_hide_gtid error && is_none filter.include_gtids)

-- ---- tables

-- What the conditions of tables make of an event, where `maps` are the table maps in force behind it. Without conditions each event
-- is taken.
abbrev pub ConcernsTables : Option TableFilter → (is_for_copy : Bool) → TableMaps → EventView → Concern → Type 0
ConcernsTables None is_for_copy maps event concern = concern ≡ Taken
ConcernsTables (Some tables) is_for_copy maps event concern = ReadsConcern tables is_for_copy maps event concern

-- A transaction begins with the event, and the filter takes such events whatever its tables are.
abbrev pub takes_begin : Filter → EventView → Bool
takes_begin filter event = filter.takes_begins && begins_transaction (header_of event.frame).event_type

-- The number of events that are left out though they may change a table that is asked for, behind one more event. It stays at
-- the largest number of 64 bits.
abbrev pub counted_if : Bool → ℕ → ℕ
counted_if is count = if is then min (count + 1) (2 ^ 64 - 1) else count

-- ---- items

-- What a filter does with an event that begins at `start`: whether it is taken. `maps` are the table maps in force behind it, and
-- `was` and `now` are what is known before and behind it.
pub record TakesEvent (filter : Filter) (maps : TableMaps) (start : Option ℕ) (was : FilterState) (event : EventView) (now : FilterState) (taken : Bool) : Type 0 where
  pub follows : FollowsEvent filter was.is_wanted event (Ok now.is_wanted)
  pub concern : Concern
  pub concerns : ConcernsTables filter.tables filter.is_for_copy maps event concern
  pub is : taken ≡ is_taken filter start event now.is_wanted (is_concerned filter.is_for_copy was.is_in_statement concern || takes_begin filter event)
  pub statement : now.is_in_statement ≡ is_in_statement was.is_in_statement taken concern
  pub left_out : now.left_out ≡ counted_if (not taken && (is_unknown concern && meets_conditions filter start event now.is_wanted)) was.left_out

-- What a filter does with an item that begins at `position`: whether it is taken. An error always is, so that no damage is
-- hidden.
abbrev pub Takes : Filter → TableMaps → Option ℕ → FilterState → Result EventView Error → FilterState → Bool → Type 0
Takes filter maps position was (Ok event) now taken = TakesEvent filter maps (start_of position event) was event now taken
Takes filter maps position was (Err error) now taken = (now ≡ record was { is_wanted = wants_behind filter was.is_wanted error }) × (taken ≡ true)

-- These events, and before them the item if it is a taken event.
abbrev pub with_taken : (taken : Bool) (item : Result EventView Error) (others : List EventView) → List EventView
with_taken true (Ok event) others = event ∷ others
with_taken taken item others = others

-- The events that are taken of items one after another. The first item begins at `position`, `maps` are the table maps in force
-- before it, and `was` is what is known there.
abbrev pub TakesEvents : (filter : Filter) (maps : TableMaps) (position : Option ℕ) (was : FilterState) (items : List (Result EventView Error)) (events : List EventView) → Type 0
TakesEvents filter maps position was [] events = events ≡ []
TakesEvents filter maps position was (item ∷ items) events =
    (now : FilterState) × (taken : Bool) × Takes filter (maps_behind maps item) position was item now taken
    × (others : List EventView) × TakesEvents filter (maps_behind maps item) (behind position item) now items others × (events ≡ with_taken taken item others)
