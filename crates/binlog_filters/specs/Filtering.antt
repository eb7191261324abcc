-- A visitor that is shown the events that a filter takes.
use Rattle.std.specs.Prelude.{◌≡◌, ◌⊎◌, ℕ, Bool, true, false, Some, is_none, Result}
use Rattle.binlog_wire.specs.declared.error.Error.{Error}
use Rattle.binlog_wire.specs.declared.error.Error.TheVariants.{Memory}
use Rattle.binlog_file.specs.Events.{EventView}
use Rattle.binlog_file.specs.TableMapsInForce.{TableMaps}
use Rattle.binlog_visits.specs.Visits.{VisitRelation, RefusalRelation}
use Rattle.binlog_filters.specs.Places.{start_of, behind, behind_event}
use Rattle.binlog_filters.specs.Taking.{Takes, TakesEvent}
use Rattle.binlog_filters.specs.declared.filtered.Filtered.{Filtered}

module _ {T : Type 0} where
  -- The same filter and visitor, at the start of a log. The events that were left out stay counted.
  abbrev pub begun : Filtered T → Filtered T
  begun filtered = record filtered {
    place = record { position = Some 4 };
    state = record filtered.state { is_wanted = is_none filtered.filter.include_gtids; is_in_statement = false };
  }

  -- The filter has gone on behind an event, which it takes or not. The visitor is as it was.
  pub record GoesBehind (old : Filtered T) (maps : TableMaps) (event : EventView) (taken : Bool) (new : Filtered T) : Type 0 where
    pub takes : TakesEvent old.filter maps (start_of old.place.position event) old.state event new.state taken
    pub same : new.filter ≡ old.filter
    pub visitor : new.visitor ≡ old.visitor
    pub place : new.place.position ≡ behind_event old.place.position event

  -- A visit of the visitor if the item is taken; else it is as it was.
  abbrev pub VisitsIf : VisitRelation T → Bool → VisitRelation T
  VisitsIf visits true old maps index item new = visits old maps index item new
  VisitsIf visits false old maps index item new = new ≡ old

  -- The item is passed by the filter to the visitor, or passed over.
  pub record Filters (visits : VisitRelation T) (old : Filtered T) (maps : TableMaps) (index : ℕ) (item : Result EventView Error) (new : Filtered T) : Type 0 where
    pub taken : Bool
    pub takes : Takes old.filter maps old.place.position old.state item new.state taken
    pub does : VisitsIf visits taken old.visitor maps index item new.visitor
    pub same : new.filter ≡ old.filter
    pub place : new.place.position ≡ behind old.place.position item

  -- The visitor refused an item that the filter takes. The filter has gone on behind the item.
  pub record RefusesItem (refuses : RefusalRelation T) (old : Filtered T) (maps : TableMaps) (index : ℕ) (item : Result EventView Error) (error : Error) (new : Filtered T) : Type 0 where
    pub takes : Takes old.filter maps old.place.position old.state item new.state true
    pub refused : refuses old.visitor maps index item error new.visitor
    pub same : new.filter ≡ old.filter
    pub place : new.place.position ≡ behind old.place.position item

  -- Memory ran out for the item's data, and nothing has changed; or the visitor refused the item.
  abbrev pub RefusesTaken : RefusalRelation T → RefusalRelation (Filtered T)
  RefusesTaken refuses old maps index item error new = ((error ≡ Memory) × (new ≡ old)) ⊎ RefusesItem refuses old maps index item error new
