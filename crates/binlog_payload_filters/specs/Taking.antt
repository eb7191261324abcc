-- Which items of a log a filter takes, by what is inside compressed transactions.
use Rattle.std.specs.Prelude.{◌≡◌, ℕ, Bool, true, false, List, [], ◌∷◌, Option, Some, None, Result, Ok, Err}
use Rattle.binlog_wire.specs.declared.error.Error.{Error}
use Rattle.binlog_events.specs.Events.{EventView}
use Rattle.binlog_file.specs.TableMapsInForce.{TableMaps}
use Rattle.binlog_visits.specs.TableMaps.{maps_behind}
use Rattle.binlog_filters.specs.Places.{start_of, behind}
use Rattle.binlog_filters.specs.Taking.{FollowsEvent, TakesEvent, meets_conditions, wants_behind, with_taken}
use Rattle.binlog_filters.specs.declared.filter.Filter.{Filter}
use Rattle.binlog_filters.specs.declared.state.FilterState.{FilterState}
use Rattle.binlog_filters.specs.declared.tables.TableFilter.{TableFilter}
use Rattle.binlog_payload_filters.specs.Payloads.{is_payload, TakesContent}

-- Whether an event with a payload is taken, where `meets` says whether each condition but those of tables takes it.
abbrev pub TakesIfMet : (meets : Bool) → (limit : ℕ) → TableFilter → EventView → Bool → Type 0
TakesIfMet false limit tables event taken = taken ≡ false
TakesIfMet true limit tables event taken = TakesContent limit tables event taken

-- What a filter with these conditions of tables does with an event with a payload that begins at `start`. It is never counted as left
-- out, since what may change a table is taken.
pub record TakesPayload (filter : Filter) (tables : TableFilter) (limit : ℕ) (start : Option ℕ) (was : FilterState) (event : EventView) (now : FilterState) (taken : Bool) : Type 0 where
  pub follows : FollowsEvent filter was.is_wanted event (Ok now.is_wanted)
  pub statement : now.is_in_statement ≡ was.is_in_statement
  pub left_out : now.left_out ≡ was.left_out
  pub is : TakesIfMet (meets_conditions filter start event now.is_wanted) limit tables event taken

-- The same with any event, by the conditions of tables and whether it has a payload. Any other event is taken as `Filtered` takes it.
abbrev pub TakesBy : Option TableFilter → (is_payload : Bool) → Filter → (limit : ℕ) → TableMaps → Option ℕ → FilterState → EventView → FilterState → Bool → Type 0
TakesBy None has filter limit maps start was event now taken = TakesEvent filter maps start was event now taken
TakesBy (Some tables) false filter limit maps start was event now taken = TakesEvent filter maps start was event now taken
TakesBy (Some tables) true filter limit maps start was event now taken = TakesPayload filter tables limit start was event now taken

-- What a filter does with an item that begins at `position`: whether it is taken. An error always is.
abbrev pub Takes : Filter → (limit : ℕ) → TableMaps → Option ℕ → FilterState → Result EventView Error → FilterState → Bool → Type 0
Takes filter limit maps position was (Ok event) now taken = TakesBy filter.tables (is_payload event) filter limit maps (start_of position event) was event now taken
Takes filter limit maps position was (Err error) now taken = (now ≡ record was { is_wanted = wants_behind filter was.is_wanted error }) × (taken ≡ true)

-- The events that are taken of items one after another. The first item begins at `position`, `maps` are the table maps in force before
-- it, and `was` is what is known there.
abbrev pub TakesEvents : (filter : Filter) (limit : ℕ) (maps : TableMaps) (position : Option ℕ) (was : FilterState) (items : List (Result EventView Error)) (events : List EventView) → Type 0
TakesEvents filter limit maps position was [] events = events ≡ []
TakesEvents filter limit maps position was (item ∷ items) events =
    (now : FilterState) × (taken : Bool) × Takes filter limit (maps_behind maps item) position was item now taken
    × (others : List EventView) × TakesEvents filter limit (maps_behind maps item) (behind position item) now items others × (events ≡ with_taken taken item others)
