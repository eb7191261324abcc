-- Counting, item by item.
use Rattle.std.specs.Prelude.{◌≡◌, ◌⊎◌, ℕ, List, Option, Result, Ok, Err}
use Rattle.binlog_wire.specs.declared.error.Error.{Error}
use Rattle.binlog_wire.specs.declared.error.Error.TheVariants.{Memory}
use Rattle.binlog_events.specs.Events.{EventView}
use Rattle.binlog_file.specs.TableMapsInForce.{TableMaps}
use Rattle.binlog_filters.specs.declared.filter.Filter.{Filter}
use Rattle.binlog_filters.specs.declared.state.FilterState.{FilterState}
use Rattle.binlog_event_format.specs.Headers.{header_of}
use Rattle.binlog_payload_visits.specs.Parts.{Part}
use Rattle.binlog_rows.specs.declared.table_map_event.TableMapEvent.{TableMapEvent}
use Rattle.change_statistics.specs.Facts.{Fact}
use Rattle.binlog_statistics.specs.ItemFacts.{IsFact, IsMappedFact, IsPartFact, AreFacts, AreTakenFacts}
use Rattle.binlog_statistics.specs.SplicedFacts.{AreSplicedFacts}

-- `adds old fact new` says what an event makes of what is counted.
module _ {S : Type 0} (adds : S → Fact → S → Type 0) where
  -- The item is counted, if it is an event.
  abbrev pub CountsItem : S → TableMaps → Result EventView Error → S → Type 0
  CountsItem old maps (Ok event) new = (fact : Fact) × IsFact maps event fact × adds old fact new
  CountsItem old maps (Err error) new = new ≡ old

  -- A part of the event that ends at `end` is counted, if it is an event.
  abbrev pub CountsPart : (end : ℕ) → S → TableMaps → Part → S → Type 0
  CountsPart end old maps (Ok event) new = (fact : Fact) × IsPartFact end maps event fact × adds old fact new
  CountsPart end old maps (Err e) new = new ≡ old

  -- A row event of the table of this table map is counted.
  abbrev pub CountsMapped : S → TableMapEvent → EventView → S → Type 0
  CountsMapped old map event new = (fact : Fact) × IsMappedFact map event fact × adds old fact new

-- The position behind an item in its log, as it states. An error states none.
abbrev pub end_behind : (end : ℕ) → Result EventView Error → ℕ
end_behind end (Ok event) = (header_of event.frame).log_pos
end_behind end (Err error) = end

-- Memory ran out, and nothing is counted: the counts are as they were, or equal to these, which `keeps old new` says.
abbrev pub RefusesItem : {S : Type 0} → (keeps : S → S → Type 0) → S → Error → S → Type 0
RefusesItem keeps old error new = (error ≡ Memory) × ((new ≡ old) ⊎ keeps old new)

-- `are facts stats` says that the statistics are those of events with these facts.
module _ {S : Type 0} (are : List Fact → S → Type 0) where
  -- The statistics are those of all items, where these table maps are in force before the first one.
  pub record AreOfItems (maps : TableMaps) (items : List (Result EventView Error)) (stats : S) : Type 0 where
    pub facts : List Fact
    pub seen : AreFacts maps items facts
    pub counted : are facts stats

  -- The statistics are those of all items and of their parts. Contents of more than `limit` bytes are errors.
  pub record AreOfSplicedItems (limit : ℕ) (maps : TableMaps) (items : List (Result EventView Error)) (stats : S) : Type 0 where
    pub facts : List Fact
    pub seen : AreSplicedFacts limit maps items facts
    pub counted : are facts stats

  -- The statistics are those of the items that a filter takes.
  pub record AreOfTakenItems (filter : Filter) (maps : TableMaps) (position : Option ℕ) (was : FilterState) (items : List (Result EventView Error)) (stats : S) : Type 0 where
    pub facts : List Fact
    pub seen : AreTakenFacts filter maps position was items facts
    pub counted : are facts stats
