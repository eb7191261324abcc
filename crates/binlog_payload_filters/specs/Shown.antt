-- The items and the parts that a filter takes, as they are shown to a visitor.
use Rattle.std.specs.Prelude.{◌≡◌, ℕ, ◌+◌, Bool, List, [], ◌∷◌, Option, Result}
use Rattle.binlog_wire.specs.declared.error.Error.{Error}
use Rattle.binlog_events.specs.Events.{EventView}
use Rattle.binlog_file.specs.TableMapsInForce.{TableMaps}
use Rattle.binlog_visits.specs.TableMaps.{maps_behind}
use Rattle.binlog_visits.specs.Visits.{VisitRelation}
use Rattle.binlog_filters.specs.Filtering.{VisitsIf}
use Rattle.binlog_filters.specs.Places.{behind}
use Rattle.binlog_filters.specs.declared.filter.Filter.{Filter}
use Rattle.binlog_filters.specs.declared.state.FilterState.{FilterState}
use Rattle.binlog_filters.specs.declared.tables.TableFilter.{TableFilter}
use Rattle.binlog_payload_visits.specs.Parts.{Part, maps_behind_part}
use Rattle.binlog_payload_visits.specs.PartVisits.{PartVisitRelation}
use Rattle.binlog_payload_filters.specs.PartConcerns.{TakesPartIfAsked}
use Rattle.binlog_payload_filters.specs.Taking.{Takes}
use Rattle.binlog_payload_filters.specs.PartFiltering.{VisitsPartIf}

module _ {T : Type 0} where
  -- The visitor was shown those of the items that are taken, in order. The first item has this index and begins at `position`, `maps`
  -- are the table maps in force before it, and `was` is what is known there.
  abbrev pub ShowsTaken : VisitRelation T → (filter : Filter) (limit : ℕ) (maps : TableMaps) (position : Option ℕ) (was : FilterState) (index : ℕ) (items : List (Result EventView Error)) (old new : T) → Type 0
  ShowsTaken visits filter limit maps position was index [] old new = new ≡ old
  ShowsTaken visits filter limit maps position was index (item ∷ items) old new =
      (now : FilterState) × (taken : Bool) × Takes filter limit (maps_behind maps item) position was item now taken
      × (mid : T) × VisitsIf visits taken old (maps_behind maps item) index item mid
      × ShowsTaken visits filter limit (maps_behind maps item) (behind position item) now (index + 1) items mid new

  -- The visitor was shown those of the parts that are taken, in order. The first part has this number, and `maps` are the table maps in
  -- force before it.
  abbrev pub ShowsParts : PartVisitRelation T → Option TableFilter → TableMaps → ℕ → ℕ → List Part → T → T → Type 0
  ShowsParts visits_part tables maps index number [] old new = new ≡ old
  ShowsParts visits_part tables maps index number (part ∷ parts) old new =
      (taken : Bool) × TakesPartIfAsked tables (maps_behind_part maps part) part taken
      × (mid : T) × VisitsPartIf visits_part taken old (maps_behind_part maps part) index number part mid
      × ShowsParts visits_part tables (maps_behind_part maps part) index (number + 1) parts mid new
