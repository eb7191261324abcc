-- The counts of a whole list of items.
use Rattle.std.specs.Prelude.{◌≡◌, ℕ, ◌-◌, ◌<◌, ◌≤◌, ◌==◌, Bool, List, [], ◌∷◌, ◌++◌, length, slice_get, slice_index, filter, filter_map, All, count_by, sum_by, Option, MatchOption, option_map, is_some, Result, Ok, is_err}
use Rattle.std.specs.Result.{result_ok}
use Rattle.binlog_wire.specs.declared.error.Error.{Error}
use Rattle.binlog_event_format.specs.Headers.{header_of}
use Rattle.binlog_events.specs.Events.{EventView}
use Rattle.binlog_events.specs.Parts.{checksum_of}
use Rattle.binlog_filters.specs.Taking.{begins_transaction}
use Rattle.binlog_commands.specs.Counting.{saturated}
use Rattle.binlog_commands.specs.declared.stats.Stats.{Stats}
use Rattle.binlog_commands.specs.declared.stats.Largest.{Largest}
use Rattle.binlog_commands.specs.declared.tally.Tally.{Tally}

-- ---- events

-- The events among the items, in order.
abbrev pub events_in : List (Result EventView Error) → List EventView
events_in items = filter_map result_ok items

abbrev pub type_of : EventView → ℕ
type_of event = (header_of event.frame).event_type

abbrev pub size_of : EventView → ℕ
size_of event = (header_of event.frame).event_size

abbrev pub time_of : EventView → ℕ
time_of event = (header_of event.frame).timestamp

-- The events of a raw type.
abbrev pub of_type : ℕ → List EventView → List EventView
of_type type events = filter (λ (event : EventView). type_of event == type) events

-- The number of bytes of the events.
abbrev pub bytes_of : List EventView → ℕ
bytes_of events = sum_by (λ (event : EventView). length event.frame) events

-- A transaction begins with the event.
abbrev pub is_begin : EventView → Bool
is_begin event = begins_transaction (type_of event)

-- The event has a checksum.
abbrev pub is_checked : EventView → Bool
is_checked event = is_some (checksum_of event.fde.footer event.frame)

abbrev pub first_of : List EventView → Option EventView
first_of events = slice_get events 0

abbrev pub last_of : List EventView → Option EventView
last_of events = slice_get events (length events - 1)

-- ---- counts

-- An event of the items, at its index: none before it is as large, and none behind it is larger.
pub record IsLargest (items : List (Result EventView Error)) (largest : Largest) : Type 0 where
  pub before : List (Result EventView Error)
  pub event : EventView
  pub behind : List (Result EventView Error)
  pub whole : items ≡ before ++ Ok event ∷ behind
  pub index : largest.index ≡ length before
  pub size : largest.size ≡ size_of event
  pub type : largest.event_type ≡ type_of event
  pub smaller : All (λ (other : EventView). size_of other < size_of event) (events_in before)
  pub no_larger : All (λ (other : EventView). size_of other ≤ size_of event) (events_in behind)

-- The statistics of all items.
pub record AreCounted (items : List (Result EventView Error)) (stats : Stats) : Type 0 where
  pub events : (type : ℕ) → type < 256 → slice_index stats.events type ≡ saturated (length (of_type type (events_in items)))
  pub bytes : (type : ℕ) → type < 256 → slice_index stats.bytes type ≡ saturated (bytes_of (of_type type (events_in items)))
  pub errors : stats.errors ≡ saturated (count_by is_err items)
  pub transactions : stats.transactions ≡ saturated (count_by is_begin (events_in items))
  pub first_time : stats.first_time ≡ option_map time_of (first_of (events_in items))
  pub last_time : stats.last_time ≡ option_map time_of (last_of (events_in items))
  pub largest : MatchOption stats.largest (events_in items ≡ []) (IsLargest items)

-- The tally of all items.
pub record AreTallied (items : List (Result EventView Error)) (tally : Tally) : Type 0 where
  pub events : tally.events ≡ saturated (length (events_in items))
  pub bytes : tally.bytes ≡ saturated (bytes_of (events_in items))
  pub checksums : tally.checksums ≡ saturated (count_by is_checked (events_in items))
  pub errors : tally.errors ≡ saturated (count_by is_err items)
