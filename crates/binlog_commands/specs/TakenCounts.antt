-- The counts of the items that a filter takes of a log.
use Rattle.std.specs.Prelude.{◌≡◌, ℕ, ◌+◌, Bool, true, false, List, [], ◌∷◌, map, slice_index_or, Option, option_map, Result}
use Rattle.binlog_wire.specs.declared.error.Error.{Error}
use Rattle.binlog_events.specs.Events.{EventView}
use Rattle.binlog_file.specs.TableMapsInForce.{TableMaps}
use Rattle.binlog_visits.specs.TableMaps.{maps_behind}
use Rattle.binlog_filters.specs.Places.{behind}
use Rattle.binlog_filters.specs.Taking.{Takes}
use Rattle.binlog_filters.specs.declared.filter.Filter.{Filter}
use Rattle.binlog_filters.specs.declared.state.FilterState.{FilterState}
use Rattle.binlog_commands.specs.WholeCounts.{AreCounted, AreTallied}
use Rattle.binlog_commands.specs.declared.stats.Stats.{Stats}
use Rattle.binlog_commands.specs.declared.stats.Largest.{Largest}
use Rattle.binlog_commands.specs.declared.tally.Tally.{Tally}

-- ---- the items that are taken

-- An item, and its index in the log.
abbrev pub Indexed : Type 0
Indexed = ℕ × Result EventView Error

abbrev pub index_of : Indexed → ℕ
index_of shown = shown.0

abbrev pub item_of : Indexed → Result EventView Error
item_of shown = shown.1

-- These items, and before them the item if it is taken.
abbrev pub with_item : (taken : Bool) (item : Indexed) (others : List Indexed) → List Indexed
with_item true item others = item ∷ others
with_item false item others = others

-- The items that are taken of items one after another: events, and each error. The first item has this index and begins at
-- `position`, `maps` are the table maps in force before it, and `was` is what is known there.
abbrev pub TakesItems : (filter : Filter) (maps : TableMaps) (position : Option ℕ) (was : FilterState) (index : ℕ) (items : List (Result EventView Error)) (shown : List Indexed) → Type 0
TakesItems filter maps position was index [] shown = shown ≡ []
TakesItems filter maps position was index (item ∷ items) shown =
    (now : FilterState) × (taken : Bool) × Takes filter (maps_behind maps item) position was item now taken
    × (others : List Indexed) × TakesItems filter (maps_behind maps item) (behind position item) now (index + 1) items others × (shown ≡ with_item taken (index, item) others)

-- ---- their counts

-- The event that is the largest of these items, with its index in the log for that among them.
abbrev pub in_log : List Indexed → Largest → Largest
in_log shown largest = record largest { index = slice_index_or (map index_of shown) largest.index 0 }

abbrev pub stats_in_log : List Indexed → Stats → Stats
stats_in_log shown stats = record stats { largest = option_map (in_log shown) stats.largest }

-- The statistics are those of the items that the filter takes, as if they were the whole log, but that the largest event has its
-- index in the log.
pub record AreTakenCounted (filter : Filter) (maps : TableMaps) (position : Option ℕ) (was : FilterState) (items : List (Result EventView Error)) (stats : Stats) : Type 0 where
  pub shown : List Indexed
  pub taken : TakesItems filter maps position was 0 items shown
  pub alone : Stats
  pub counted : AreCounted (map item_of shown) alone
  pub is : stats ≡ stats_in_log shown alone

-- The tally is that of the items that the filter takes.
pub record AreTakenTallied (filter : Filter) (maps : TableMaps) (position : Option ℕ) (was : FilterState) (items : List (Result EventView Error)) (tally : Tally) : Type 0 where
  pub shown : List Indexed
  pub taken : TakesItems filter maps position was 0 items shown
  pub tallied : AreTallied (map item_of shown) tally
