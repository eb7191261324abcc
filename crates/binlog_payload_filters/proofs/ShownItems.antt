-- What a visitor was shown of items, and of parts, one after another.
use Rattle.std.proofs.Common.{◌≡◌, ℕ, ◌+◌, List, [], ◌∷◌, Option, None, Result, Ok, Err, OnOk, IfErr, refl, ap, subst, ◌∙◌}
use Rattle.binlog_wire.specs.declared.error.Error.{Error}
use Rattle.binlog_events.specs.Events.{EventView}
use Rattle.binlog_file.specs.TableMapsInForce.{TableMaps}
use Rattle.binlog_visits.specs.TableMaps.{maps_behind}
use Rattle.binlog_visits.specs.Visits.{VisitRelation, Visits}
use Rattle.binlog_filters.specs.Filtering.{Filters}
use Rattle.binlog_filters.specs.Places.{start_of}
use Rattle.binlog_filters.specs.declared.filter.Filter.{Filter}
use Rattle.binlog_filters.specs.declared.tables.TableFilter.{TableFilter}
use Rattle.binlog_payload_visits.specs.Parts.{Part, maps_behind_part}
use Rattle.binlog_payload_visits.specs.PartVisits.{PartVisitRelation, VisitsParts}
use Rattle.binlog_payload_filters.specs.Filtering.{FiltersPayloads}
use Rattle.binlog_payload_filters.specs.PartFiltering as taken_parts
use Rattle.binlog_payload_filters.specs.Shown.{ShowsTaken, ShowsParts}
use Rattle.binlog_payload_filters.specs.declared.filtered.PayloadFiltered.{PayloadFiltered}
use Rattle.binlog_payload_filters.specs.declared.taken_parts.TakenParts.{TakenParts}
use Rattle.binlog_payload_filters.proofs.Decided.{unasked_taken}

-- ---- a visit that leaves something as it is

pub on_same : {A E B : Type 0} (result : Result A E) (does : Type 0) (b : B) → OnOk result does → OnOk result (does × (b ≡ b))
on_same (Ok x) does b is = (is, refl)
on_same (Err e) does b is = is

pub refused_same : {A E B : Type 0} (result : Result A E) (refused : E → Type 0) (b : B) → IfErr result refused → IfErr result (λ e. refused e × (b ≡ b))
refused_same (Ok x) refused b is = is
refused_same (Err e) refused b is = (is, refl)

-- ---- items

module _ {T : Type 0} (visits : VisitRelation T) where
  pub all_shown : (maps : TableMaps) (index : ℕ) (items : List (Result EventView Error)) (old new : PayloadFiltered T) → Visits (FiltersPayloads visits) maps index items old new
      → ShowsTaken visits old.filtered.filter old.limit maps old.filtered.place.position old.filtered.state index items old.filtered.visitor new.filtered.visitor
  all_shown maps index [] old new visited = ap (λ (f : PayloadFiltered T). f.filtered.visitor) visited
  all_shown maps index (item ∷ items) old new visited =
      let mid : PayloadFiltered T = visited.0 in
      let one = visited.1 in
      let maps_after = maps_behind maps item in
      let rest = all_shown maps_after (index + 1) items mid new visited.2 in
      let filter_same = subst (λ (f : Filter). ShowsTaken visits f mid.limit maps_after mid.filtered.place.position mid.filtered.state (index + 1) items mid.filtered.visitor new.filtered.visitor) one.goes.same rest in
      let limit_same = subst (λ (l : ℕ). ShowsTaken visits old.filtered.filter l maps_after mid.filtered.place.position mid.filtered.state (index + 1) items mid.filtered.visitor new.filtered.visitor) one.goes.limit filter_same in
      let place_same = subst (λ (p : Option ℕ). ShowsTaken visits old.filtered.filter old.limit maps_after p mid.filtered.state (index + 1) items mid.filtered.visitor new.filtered.visitor) one.goes.place limit_same in
      (mid.filtered.state, one.taken, one.takes, mid.filtered.visitor, one.does, place_same)

  -- ---- without conditions of tables

  own_item : (maps : TableMaps) (index : ℕ) (item : Result EventView Error) (old new : PayloadFiltered T) → old.filtered.filter.tables ≡ None → FiltersPayloads visits old maps index item new → Filters visits old.filtered maps index item new.filtered
  own_item maps index (Ok event) old new none filters = record {
    taken = filters.taken;
    takes = unasked_taken old.filtered.filter old.limit maps (start_of old.filtered.place.position event) old.filtered.state event new.filtered.state filters.taken none filters.takes;
    does = filters.does;
    same = filters.goes.same;
    place = filters.goes.place;
  }
  own_item maps index (Err error) old new none filters = record {
    taken = filters.taken;
    takes = filters.takes;
    does = filters.does;
    same = filters.goes.same;
    place = filters.goes.place;
  }

  pub as_filtered : (maps : TableMaps) (index : ℕ) (items : List (Result EventView Error)) (old new : PayloadFiltered T) → old.filtered.filter.tables ≡ None → Visits (FiltersPayloads visits) maps index items old new
      → Visits (Filters visits) maps index items old.filtered new.filtered
  as_filtered maps index [] old new none visited = ap (λ (f : PayloadFiltered T). f.filtered) visited
  as_filtered maps index (item ∷ items) old new none visited =
      let mid : PayloadFiltered T = visited.0 in (
        mid.filtered,
        own_item (maps_behind maps item) index item old mid none visited.1,
        as_filtered (maps_behind maps item) (index + 1) items mid new (ap (λ (f : Filter). f.tables) visited.1.goes.same ∙ none) visited.2,
      )

module _ {T : Type 0} (visits_part : PartVisitRelation T) where
  pub all_parts : (maps : TableMaps) (index number : ℕ) (parts : List Part) (old new : TakenParts T) → VisitsParts (taken_parts.ShowsTaken visits_part) maps index number parts old new
      → ShowsParts visits_part old.tables maps index number parts old.visitor new.visitor × (new.tables ≡ old.tables)
  all_parts maps index number [] old new visited = (ap (λ (t : TakenParts T). t.visitor) visited, ap (λ (t : TakenParts T). t.tables) visited)
  all_parts maps index number (part ∷ parts) old new visited =
      let mid : TakenParts T = visited.0 in
      let one = visited.1 in
      let rest = all_parts (maps_behind_part maps part) index (number + 1) parts mid new visited.2 in
      let same = subst (λ (t : Option TableFilter). ShowsParts visits_part t (maps_behind_part maps part) index (number + 1) parts mid.visitor new.visitor) one.same rest.0 in
      ((one.taken, one.takes, mid.visitor, one.does, same), rest.1 ∙ one.same)
