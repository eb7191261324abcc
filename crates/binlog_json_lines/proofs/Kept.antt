-- A setting that no visit of a visitor changes, also where a filter is before the visitor.
use Rattle.std.proofs.Common.{◌≡◌, ℕ, ◌+◌, Bool, true, false, List, [], ◌∷◌, Result, ap, ◌∙◌}
use Rattle.binlog_wire.specs.declared.error.Error.{Error}
use Rattle.binlog_events.specs.Events.{EventView}
use Rattle.binlog_file.specs.TableMapsInForce.{TableMaps}
use Rattle.binlog_visits.specs.TableMaps.{maps_behind}
use Rattle.binlog_visits.specs.Visits.{VisitRelation, Visits}
use Rattle.binlog_filters.specs.Filtering.{Filters, VisitsIf}
use Rattle.binlog_filters.specs.declared.filtered.Filtered.{Filtered}

-- No visit changes the setting.
abbrev pub KeepsEach : {T A : Type 0} (setting : T → A) (visits : VisitRelation T) → Type 0
KeepsEach {T} {A} setting visits = (old : T) (maps : TableMaps) (index : ℕ) (item : Result EventView Error) (new : T) → visits old maps index item new → setting new ≡ setting old

module _ {T A : Type 0} (setting : T → A) (visits : VisitRelation T) (keeps : KeepsEach setting visits) (is : A) where
  -- A visit of a visitor with this setting.
  abbrev pub VisitsSet : VisitRelation T
  VisitsSet old maps index item new = visits old maps index item new × (setting old ≡ is)

  set_if : (taken : Bool) (maps : TableMaps) (index : ℕ) (item : Result EventView Error) (old new : T) → VisitsIf visits taken old maps index item new → setting old ≡ is
      → VisitsIf VisitsSet taken old maps index item new × (setting new ≡ is)
  set_if true maps index item old new does set = ((does, set), keeps old maps index item new does ∙ set)
  set_if false maps index item old new does set = (does, ap setting does ∙ set)

  pub filters_set : (maps : TableMaps) (index : ℕ) (items : List (Result EventView Error)) (old new : Filtered T) → setting old.visitor ≡ is → Visits (Filters visits) maps index items old new
      → Visits (Filters VisitsSet) maps index items old new
  filters_set maps index [] old new set visited = visited
  filters_set maps index (item ∷ items) old new set visited =
      let mid = visited.0 in
      let one = visited.1 in
      let both = set_if one.taken (maps_behind maps item) index item old.visitor mid.visitor one.does set in (
        mid,
        record { taken = one.taken; takes = one.takes; does = both.0; same = one.same; place = one.place },
        filters_set (maps_behind maps item) (index + 1) items mid new both.1 visited.2,
      )
