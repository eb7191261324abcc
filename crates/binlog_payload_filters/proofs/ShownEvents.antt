-- A visit of an item that a filter takes, by what is inside compressed transactions.
use Rattle.std.proofs.Common.{◌≡◌, inl, inr, ℕ, true, false, Option, Some, None, Result, Ok, Err, OnOk, IfErr, refl, sym, ap, subst, ◌∙◌}
use Rattle.binlog_wire.specs.declared.error.Error.{Error}
use Rattle.binlog_events.specs.Events.{EventView}
use Rattle.binlog_file.specs.TableMapsInForce.{TableMaps}
use Rattle.binlog_visits.specs.Visits.{VisitRelation, RefusalRelation}
use Rattle.binlog_filters.specs.Filtering.{Filters, RefusesTaken as RefusesFiltered}
use Rattle.binlog_filters.specs.Places.{start_of}
use Rattle.binlog_filters.specs.declared.filter.Filter.{Filter}
use Rattle.binlog_filters.specs.declared.filtered.Filtered.{Filtered}
use Rattle.binlog_filters.specs.declared.tables.TableFilter.{TableFilter}
use Rattle.binlog_payload_filters.specs.Payloads.{is_payload}
use Rattle.binlog_payload_filters.specs.Taking.{TakesPayload}
use Rattle.binlog_payload_filters.specs.Filtering.{FiltersPayloads, GoesOn, RefusesTaken, ShowsPayload, RefusesPayload}
use Rattle.binlog_payload_filters.specs.declared.filtered.PayloadFiltered.{PayloadFiltered}
use Rattle.binlog_payload_filters.proofs.Decided.{taken_inside, taken_outside, taken_unasked}

-- A filter that has its conditions of tables again.
restored : (tables : TableFilter) (filter other : Filter) → filter.tables ≡ Some tables → other ≡ record filter { tables = None } → record other { tables = Some tables } ≡ filter
restored tables filter other asked same =
    ap (λ (f : Filter). record f { tables = Some tables }) same ∙ ap (λ (t : Option TableFilter). record filter { tables = t }) (sym asked)

-- A filter without conditions of tables, of which there were none.
untabled : (filter : Filter) → filter.tables ≡ None → record filter { tables = None } ≡ filter
untabled filter none = ap (λ (t : Option TableFilter). record filter { tables = t }) (sym none)

-- ---- an event with a payload

module _ {T : Type 0} where
  pub shown_on : {A E : Type 0} (result : Result A E) (visits : VisitRelation T) (tables : TableFilter) (old : PayloadFiltered T) (maps : TableMaps) (index : ℕ) (event : EventView) (new : PayloadFiltered T)
      → TakesPayload old.filtered.filter tables old.limit (start_of old.filtered.place.position event) old.filtered.state event new.filtered.state true → GoesOn old (Ok event) new
      → OnOk result (visits old.filtered.visitor maps index (Ok event) new.filtered.visitor) → OnOk result (ShowsPayload visits tables old maps index event new)
  shown_on (Ok x) visits tables old maps index event new takes goes does = record { taken = true; takes = takes; does = does; goes = goes }
  shown_on (Err e) visits tables old maps index event new takes goes does = does

  pub refused_on : {A : Type 0} (result : Result A Error) (refuses : RefusalRelation T) (tables : TableFilter) (old : PayloadFiltered T) (maps : TableMaps) (index : ℕ) (event : EventView) (new : PayloadFiltered T)
      → TakesPayload old.filtered.filter tables old.limit (start_of old.filtered.place.position event) old.filtered.state event new.filtered.state true → GoesOn old (Ok event) new
      → IfErr result (λ e. refuses old.filtered.visitor maps index (Ok event) e new.filtered.visitor) → IfErr result (λ e. RefusesPayload refuses tables old maps index event e new)
  refused_on (Ok x) refuses tables old maps index event new takes goes does = does
  refused_on (Err e) refuses tables old maps index event new takes goes does = inr (record { takes = takes; refused = does; goes = goes })

  -- ---- its filter with and without conditions of tables

  -- The same filter with these conditions of tables.
  abbrev pub with_tables : Option TableFilter → PayloadFiltered T → PayloadFiltered T
  with_tables tables old = record old { filtered = record old.filtered { filter = record old.filtered.filter { tables = tables } } }

  goes_back : (tables : TableFilter) (old : PayloadFiltered T) (item : Result EventView Error) (behind : PayloadFiltered T) → old.filtered.filter.tables ≡ Some tables → GoesOn (with_tables None old) item behind
      → GoesOn old item (with_tables (Some tables) behind)
  goes_back tables old item behind asked goes = record {
    same = restored tables old.filtered.filter behind.filtered.filter asked goes.same;
    limit = goes.limit;
    place = goes.place;
  }

  pub payload_filtered : {A E : Type 0} (result : Result A E) (visits : VisitRelation T) (tables : TableFilter) (old : PayloadFiltered T) (maps : TableMaps) (index : ℕ) (event : EventView) (behind : PayloadFiltered T)
      → old.filtered.filter.tables ≡ Some tables → is_payload event ≡ true → OnOk result (ShowsPayload visits tables (with_tables None old) maps index event behind)
      → OnOk result (FiltersPayloads visits old maps index (Ok event) (with_tables (Some tables) behind))
  payload_filtered (Ok x) visits tables old maps index event behind asked payload shows = record {
    taken = shows.taken;
    takes = taken_inside old.filtered.filter tables old.limit maps (start_of old.filtered.place.position event) old.filtered.state event behind.filtered.state shows.taken asked payload shows.takes;
    does = shows.does;
    goes = goes_back tables old (Ok event) behind asked shows.goes;
  }
  payload_filtered (Err e) visits tables old maps index event behind asked payload shows = shows

  back_same : (tables : TableFilter) (old behind : PayloadFiltered T) → old.filtered.filter.tables ≡ Some tables → behind ≡ with_tables None old → with_tables (Some tables) behind ≡ old
  back_same tables old behind asked same =
      ap (λ (b : PayloadFiltered T). with_tables (Some tables) b) same ∙ ap (λ (t : Option TableFilter). with_tables t old) (sym asked)

  refused_by : (refuses : RefusalRelation T) (tables : TableFilter) (old : PayloadFiltered T) (maps : TableMaps) (index : ℕ) (event : EventView) (error : Error) (behind : PayloadFiltered T)
      → old.filtered.filter.tables ≡ Some tables → is_payload event ≡ true → RefusesPayload refuses tables (with_tables None old) maps index event error behind
      → RefusesTaken refuses old maps index (Ok event) error (with_tables (Some tables) behind)
  refused_by refuses tables old maps index event error behind asked payload (inl (memory, same)) = inl (memory, back_same tables old behind asked same)
  refused_by refuses tables old maps index event error behind asked payload (inr shown) = inr (record {
    takes = taken_inside old.filtered.filter tables old.limit maps (start_of old.filtered.place.position event) old.filtered.state event behind.filtered.state true asked payload shown.takes;
    refused = shown.refused;
    goes = goes_back tables old (Ok event) behind asked shown.goes;
  })

  pub payload_refused : {A : Type 0} (result : Result A Error) (refuses : RefusalRelation T) (tables : TableFilter) (old : PayloadFiltered T) (maps : TableMaps) (index : ℕ) (event : EventView) (behind : PayloadFiltered T)
      → old.filtered.filter.tables ≡ Some tables → is_payload event ≡ true → IfErr result (λ e. RefusesPayload refuses tables (with_tables None old) maps index event e behind)
      → IfErr result (λ e. RefusesTaken refuses old maps index (Ok event) e (with_tables (Some tables) behind))
  payload_refused (Ok x) refuses tables old maps index event behind asked payload shows = tt
  payload_refused (Err e) refuses tables old maps index event behind asked payload shows = refused_by refuses tables old maps index event e behind asked payload shows

  -- The same with another filter.
  abbrev pub with_filter : Filter → PayloadFiltered T → PayloadFiltered T
  with_filter filter old = record old { filtered = record old.filtered { filter = filter } }

  -- The conditions of tables are taken out, and put back.
  pub apart_filtered : {A E : Type 0} (result : Result A E) (visits : VisitRelation T) (tables : TableFilter) (old : PayloadFiltered T) (without : Filter) (maps : TableMaps) (index : ℕ) (event : EventView) (behind : PayloadFiltered T) (again : Filter)
      → old.filtered.filter.tables ≡ Some tables → is_payload event ≡ true → without ≡ record old.filtered.filter { tables = None } → again ≡ record behind.filtered.filter { tables = Some tables }
      → OnOk result (ShowsPayload visits tables (with_filter without old) maps index event behind) → OnOk result (FiltersPayloads visits old maps index (Ok event) (with_filter again behind))
  apart_filtered result visits tables old without maps index event behind again asked payload is_without is_again shows =
      subst (λ (f : Filter). OnOk result (FiltersPayloads visits old maps index (Ok event) (with_filter f behind))) (sym is_again)
      (payload_filtered result visits tables old maps index event behind asked payload
      (subst (λ (f : Filter). OnOk result (ShowsPayload visits tables (with_filter f old) maps index event behind)) is_without shows))

  -- ---- an event that is taken as it is outside, and an error

  -- The same limit, behind an item.
  abbrev pub behind_it : PayloadFiltered T → Filtered T → PayloadFiltered T
  behind_it old new = record old { filtered = new }

  own_goes : (visits : VisitRelation T) (old : PayloadFiltered T) (maps : TableMaps) (index : ℕ) (item : Result EventView Error) (new : Filtered T) → Filters visits old.filtered maps index item new → GoesOn old item (behind_it old new)
  own_goes visits old maps index item new filters = record { same = filters.same; limit = refl; place = filters.place }

  pub event_filtered : {A E : Type 0} (result : Result A E) (visits : VisitRelation T) (old : PayloadFiltered T) (maps : TableMaps) (index : ℕ) (event : EventView) (new : Filtered T)
      → is_payload event ≡ false → OnOk result (Filters visits old.filtered maps index (Ok event) new) → OnOk result (FiltersPayloads visits old maps index (Ok event) (behind_it old new))
  event_filtered (Ok x) visits old maps index event new other filters = record {
    taken = filters.taken;
    takes = taken_outside old.filtered.filter old.limit maps (start_of old.filtered.place.position event) old.filtered.state event new.state filters.taken other filters.takes;
    does = filters.does;
    goes = own_goes visits old maps index (Ok event) new filters;
  }
  event_filtered (Err e) visits old maps index event new other filters = filters

  pub unasked_filtered : {A E : Type 0} (result : Result A E) (visits : VisitRelation T) (old : PayloadFiltered T) (maps : TableMaps) (index : ℕ) (event : EventView) (new : Filtered T)
      → old.filtered.filter.tables ≡ None → OnOk result (Filters visits old.filtered maps index (Ok event) new) → OnOk result (FiltersPayloads visits old maps index (Ok event) (behind_it old new))
  unasked_filtered (Ok x) visits old maps index event new none filters = record {
    taken = filters.taken;
    takes = taken_unasked old.filtered.filter old.limit maps (start_of old.filtered.place.position event) old.filtered.state event new.state filters.taken none filters.takes;
    does = filters.does;
    goes = own_goes visits old maps index (Ok event) new filters;
  }
  unasked_filtered (Err e) visits old maps index event new none filters = filters

  -- The conditions of tables are looked for, and there are none.
  pub untabled_filtered : {A E : Type 0} (result : Result A E) (visits : VisitRelation T) (old : PayloadFiltered T) (without : Filter) (maps : TableMaps) (index : ℕ) (event : EventView) (new : Filtered T)
      → old.filtered.filter.tables ≡ None → without ≡ record old.filtered.filter { tables = None }
      → OnOk result (Filters visits (record old.filtered { filter = without }) maps index (Ok event) new) → OnOk result (FiltersPayloads visits old maps index (Ok event) (behind_it old new))
  untabled_filtered result visits old without maps index event new none is_without filters =
      unasked_filtered result visits old maps index event new none
      (subst (λ (f : Filter). OnOk result (Filters visits (record old.filtered { filter = f }) maps index (Ok event) new)) (is_without ∙ untabled old.filtered.filter none) filters)

  pub error_filtered : {A E : Type 0} (result : Result A E) (visits : VisitRelation T) (old : PayloadFiltered T) (maps : TableMaps) (index : ℕ) (error : Error) (new : Filtered T)
      → OnOk result (Filters visits old.filtered maps index (Err error) new) → OnOk result (FiltersPayloads visits old maps index (Err error) (behind_it old new))
  error_filtered (Ok x) visits old maps index error new filters = record {
    taken = filters.taken;
    takes = filters.takes;
    does = filters.does;
    goes = own_goes visits old maps index (Err error) new filters;
  }
  error_filtered (Err e) visits old maps index error new filters = filters

  -- Refusals.
  event_refused_by : (refuses : RefusalRelation T) (old : PayloadFiltered T) (maps : TableMaps) (index : ℕ) (event : EventView) (error : Error) (new : Filtered T) → is_payload event ≡ false
      → RefusesFiltered refuses old.filtered maps index (Ok event) error new → RefusesTaken refuses old maps index (Ok event) error (behind_it old new)
  event_refused_by refuses old maps index event error new other (inl (memory, same)) = inl (memory, ap (behind_it old) same)
  event_refused_by refuses old maps index event error new other (inr refused) = inr (record {
    takes = taken_outside old.filtered.filter old.limit maps (start_of old.filtered.place.position event) old.filtered.state event new.state true other refused.takes;
    refused = refused.refused;
    goes = record { same = refused.same; limit = refl; place = refused.place };
  })

  pub event_refused : {A : Type 0} (result : Result A Error) (refuses : RefusalRelation T) (old : PayloadFiltered T) (maps : TableMaps) (index : ℕ) (event : EventView) (new : Filtered T) → is_payload event ≡ false
      → IfErr result (λ e. RefusesFiltered refuses old.filtered maps index (Ok event) e new) → IfErr result (λ e. RefusesTaken refuses old maps index (Ok event) e (behind_it old new))
  event_refused (Ok x) refuses old maps index event new other refused = tt
  event_refused (Err e) refuses old maps index event new other refused = event_refused_by refuses old maps index event e new other refused

  unasked_refused_by : (refuses : RefusalRelation T) (old : PayloadFiltered T) (maps : TableMaps) (index : ℕ) (event : EventView) (error : Error) (new : Filtered T) → old.filtered.filter.tables ≡ None
      → RefusesFiltered refuses old.filtered maps index (Ok event) error new → RefusesTaken refuses old maps index (Ok event) error (behind_it old new)
  unasked_refused_by refuses old maps index event error new none (inl (memory, same)) = inl (memory, ap (behind_it old) same)
  unasked_refused_by refuses old maps index event error new none (inr refused) = inr (record {
    takes = taken_unasked old.filtered.filter old.limit maps (start_of old.filtered.place.position event) old.filtered.state event new.state true none refused.takes;
    refused = refused.refused;
    goes = record { same = refused.same; limit = refl; place = refused.place };
  })

  pub unasked_refused : {A : Type 0} (result : Result A Error) (refuses : RefusalRelation T) (old : PayloadFiltered T) (maps : TableMaps) (index : ℕ) (event : EventView) (new : Filtered T) → old.filtered.filter.tables ≡ None
      → IfErr result (λ e. RefusesFiltered refuses old.filtered maps index (Ok event) e new) → IfErr result (λ e. RefusesTaken refuses old maps index (Ok event) e (behind_it old new))
  unasked_refused (Ok x) refuses old maps index event new none refused = tt
  unasked_refused (Err e) refuses old maps index event new none refused = unasked_refused_by refuses old maps index event e new none refused

  error_refused_by : (refuses : RefusalRelation T) (old : PayloadFiltered T) (maps : TableMaps) (index : ℕ) (found : Error) (error : Error) (new : Filtered T)
      → RefusesFiltered refuses old.filtered maps index (Err found) error new → RefusesTaken refuses old maps index (Err found) error (behind_it old new)
  error_refused_by refuses old maps index found error new (inl (memory, same)) = inl (memory, ap (behind_it old) same)
  error_refused_by refuses old maps index found error new (inr refused) = inr (record {
    takes = refused.takes;
    refused = refused.refused;
    goes = record { same = refused.same; limit = refl; place = refused.place };
  })

  pub error_refused : {A : Type 0} (result : Result A Error) (refuses : RefusalRelation T) (old : PayloadFiltered T) (maps : TableMaps) (index : ℕ) (found : Error) (new : Filtered T)
      → IfErr result (λ e. RefusesFiltered refuses old.filtered maps index (Err found) e new) → IfErr result (λ e. RefusesTaken refuses old maps index (Err found) e (behind_it old new))
  error_refused (Ok x) refuses old maps index found new refused = tt
  error_refused (Err e) refuses old maps index found new refused = error_refused_by refuses old maps index found e new refused
