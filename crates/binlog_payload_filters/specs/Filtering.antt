-- A visitor that is shown what a filter takes, by what is inside compressed transactions.
use Rattle.std.specs.Prelude.{◌≡◌, ◌⊎◌, ℕ, Bool, true, Ok, Result}
use Rattle.binlog_wire.specs.declared.error.Error.{Error}
use Rattle.binlog_wire.specs.declared.error.Error.TheVariants.{Memory}
use Rattle.binlog_events.specs.Events.{EventView}
use Rattle.binlog_file.specs.TableMapsInForce.{TableMaps}
use Rattle.binlog_visits.specs.Visits.{VisitRelation, RefusalRelation}
use Rattle.binlog_filters.specs.Filtering.{VisitsIf}
use Rattle.binlog_filters.specs.Places.{start_of, behind}
use Rattle.binlog_filters.specs.declared.tables.TableFilter.{TableFilter}
use Rattle.binlog_payload_filters.specs.Taking.{Takes, TakesPayload}
use Rattle.binlog_payload_filters.specs.declared.filtered.PayloadFiltered.{PayloadFiltered}

module _ {T : Type 0} where
  -- The filter has gone on behind the item, and is otherwise as it was.
  pub record GoesOn (old : PayloadFiltered T) (item : Result EventView Error) (new : PayloadFiltered T) : Type 0 where
    pub same : new.filtered.filter ≡ old.filtered.filter
    pub limit : new.limit ≡ old.limit
    pub place : new.filtered.place.position ≡ behind old.filtered.place.position item

  -- The item is passed by the filter to the visitor, or passed over.
  pub record FiltersPayloads (visits : VisitRelation T) (old : PayloadFiltered T) (maps : TableMaps) (index : ℕ) (item : Result EventView Error) (new : PayloadFiltered T) : Type 0 where
    pub taken : Bool
    pub takes : Takes old.filtered.filter old.limit maps old.filtered.place.position old.filtered.state item new.filtered.state taken
    pub does : VisitsIf visits taken old.filtered.visitor maps index item new.filtered.visitor
    pub goes : GoesOn old item new

  -- The visitor refused an item that the filter takes.
  pub record RefusesItem (refuses : RefusalRelation T) (old : PayloadFiltered T) (maps : TableMaps) (index : ℕ) (item : Result EventView Error) (error : Error) (new : PayloadFiltered T) : Type 0 where
    pub takes : Takes old.filtered.filter old.limit maps old.filtered.place.position old.filtered.state item new.filtered.state true
    pub refused : refuses old.filtered.visitor maps index item error new.filtered.visitor
    pub goes : GoesOn old item new

  -- Memory ran out, and nothing has changed; or the visitor refused the item.
  abbrev pub RefusesTaken : RefusalRelation T → RefusalRelation (PayloadFiltered T)
  RefusesTaken refuses old maps index item error new = ((error ≡ Memory) × (new ≡ old)) ⊎ RefusesItem refuses old maps index item error new

  -- ---- an event with a payload, where the conditions of tables are apart from the filter

  pub record ShowsPayload (visits : VisitRelation T) (tables : TableFilter) (old : PayloadFiltered T) (maps : TableMaps) (index : ℕ) (event : EventView) (new : PayloadFiltered T) : Type 0 where
    pub taken : Bool
    pub takes : TakesPayload old.filtered.filter tables old.limit (start_of old.filtered.place.position event) old.filtered.state event new.filtered.state taken
    pub does : VisitsIf visits taken old.filtered.visitor maps index (Ok event) new.filtered.visitor
    pub goes : GoesOn old (Ok event) new

  pub record RefusesShown (refuses : RefusalRelation T) (tables : TableFilter) (old : PayloadFiltered T) (maps : TableMaps) (index : ℕ) (event : EventView) (error : Error) (new : PayloadFiltered T) : Type 0 where
    pub takes : TakesPayload old.filtered.filter tables old.limit (start_of old.filtered.place.position event) old.filtered.state event new.filtered.state true
    pub refused : refuses old.filtered.visitor maps index (Ok event) error new.filtered.visitor
    pub goes : GoesOn old (Ok event) new

  abbrev pub RefusesPayload : (refuses : RefusalRelation T) (tables : TableFilter) (old : PayloadFiltered T) (maps : TableMaps) (index : ℕ) (event : EventView) (error : Error) (new : PayloadFiltered T) → Type 0
  RefusesPayload refuses tables old maps index event error new = ((error ≡ Memory) × (new ≡ old)) ⊎ RefusesShown refuses tables old maps index event error new
