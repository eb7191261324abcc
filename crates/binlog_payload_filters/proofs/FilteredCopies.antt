-- The copy of the events that a filter takes, by what is inside compressed transactions, is a log of these events.
use Rattle.std.proofs.Common.{◌≡◌, ℕ, Bool, true, false, ◌||◌, List, ◌++◌, Option, Some, None, Result, Ok, Err, refl, sym, ap, subst, ◌∙◌, unwrap_or}
use Rattle.binlog_wire.specs.declared.error.Error.{Error}
use Rattle.binlog_consts.specs.declared.version.BinlogVersion.TheVariants.{Version4}
use Rattle.binlog_event_format.specs.declared.format_description.FormatDescriptionEvent.{FormatDescriptionEvent}
use Rattle.binlog_event_format.specs.FormatDescription.{default_description}
use Rattle.binlog_events.specs.FileHeader.{file_header}
use Rattle.binlog_events.specs.Events.{EventView}
use Rattle.binlog_events.specs.Parts.{is_description}
use Rattle.binlog_file.specs.Descriptions.{accepted}
use Rattle.binlog_file.specs.Items.{item_of}
use Rattle.binlog_file.specs.StreamItems.{AreItems}
use Rattle.binlog_file.proofs.OwnFrames.{event_is}
use Rattle.binlog_file.specs.TableMapsInForce.{TableMaps, no_table_maps}
use Rattle.binlog_visits.specs.TableMaps.{maps_behind}
use Rattle.binlog_visits.specs.Visits.{VisitRelation, Visits}
use Rattle.binlog_filters.specs.Concerns.{is_concerned}
use Rattle.binlog_filters.specs.Places.{behind}
use Rattle.binlog_filters.specs.Filtering.{VisitsIf}
use Rattle.binlog_filters.specs.Taking.{takes_begin}
use Rattle.binlog_filters.specs.declared.filter.Filter.{Filter}
use Rattle.binlog_filters.specs.declared.state.FilterState.{FilterState}
use Rattle.binlog_filters.specs.declared.tables.TableFilter.{TableFilter}
use Rattle.binlog_filters.specs.Copying.{CopiesItem}
use Rattle.binlog_filters.proofs.CopiedItems.{brings_none, left_out, CopiesTaken, IsStep, copied_items}
use Rattle.binlog_payload_filters.specs.Copies.{IsFilteredCopy}
use Rattle.binlog_payload_filters.specs.Filtering.{FiltersPayloads}
use Rattle.binlog_payload_filters.specs.Payloads.{is_payload}
use Rattle.binlog_payload_filters.specs.Taking.{Takes, TakesBy, TakesEvents}
use Rattle.binlog_payload_filters.specs.declared.filtered.PayloadFiltered.{PayloadFiltered}
use Rattle.binlog_payload_filters.proofs.Decided.{no_description}

-- An event with a payload brings no description into force.
payload_left_out : (d : FormatDescriptionEvent) (frame : List ℕ) (event : EventView) → item_of d frame ≡ Ok event → is_payload event ≡ true → unwrap_or (accepted frame) d ≡ d
payload_left_out d frame event item payload =
    let own : event.frame ≡ frame = ap (λ (e : EventView). e.frame) (event_is d frame event item).1 in
    brings_none (is_description frame) _ d (ap (λ (f : List ℕ). is_description f) (sym own) ∙ no_description event payload)

untaken_by : (t : Option TableFilter) (b : Bool) (d : FormatDescriptionEvent) (frame : List ℕ) (event : EventView) (filter : Filter) (limit : ℕ) (maps : TableMaps) (start : Option ℕ) (was now : FilterState)
    → is_payload event ≡ b → item_of d frame ≡ Ok event → filter.is_for_copy ≡ true → TakesBy t b filter limit maps start was event now false → unwrap_or (accepted frame) d ≡ d
untaken_by None b d frame event filter limit maps start was now is item all takes =
    left_out d frame event filter start now.is_wanted (is_concerned filter.is_for_copy was.is_in_statement takes.concern || takes_begin filter event) item all takes.is
untaken_by (Some tables) false d frame event filter limit maps start was now is item all takes =
    left_out d frame event filter start now.is_wanted (is_concerned filter.is_for_copy was.is_in_statement takes.concern || takes_begin filter event) item all takes.is
untaken_by (Some tables) true d frame event filter limit maps start was now is item all takes = payload_left_out d frame event item is

untaken : (d : FormatDescriptionEvent) (frame : List ℕ) (event : EventView) (filter : Filter) (limit : ℕ) (maps : TableMaps) (start : Option ℕ) (was now : FilterState) → item_of d frame ≡ Ok event
    → filter.is_for_copy ≡ true → TakesBy filter.tables (is_payload event) filter limit maps start was event now false → unwrap_or (accepted frame) d ≡ d
untaken d frame event filter limit maps start was now item all takes = untaken_by filter.tables (is_payload event) d frame event filter limit maps start was now refl item all takes

module _ {T : Type 0} (contents : T → Option (List ℕ)) where
  abbrev contents_of : PayloadFiltered T → Option (List ℕ)
  contents_of old = contents old.filtered.visitor

  abbrev IsForCopy : PayloadFiltered T → Type 0
  IsForCopy old = old.filtered.filter.is_for_copy ≡ true

  abbrev TakesItems : PayloadFiltered T → TableMaps → List (Result EventView Error) → List EventView → Type 0
  TakesItems old maps items events = TakesEvents old.filtered.filter old.limit maps old.filtered.place.position old.filtered.state items events

  -- A visit writes the bytes of the item's event.
  abbrev Copies : VisitRelation T
  Copies old maps index item new = CopiesItem item (contents old) (contents new)

  -- The same filter goes on behind an item.
  goes_on : (maps : TableMaps) (index : ℕ) (item : Result EventView Error) (items : List (Result EventView Error)) (old mid : PayloadFiltered T) (events : List EventView) → FiltersPayloads Copies old maps index item mid
      → TakesItems mid maps items events → TakesEvents old.filtered.filter old.limit maps (behind old.filtered.place.position item) mid.filtered.state items events
  goes_on maps index item items old mid events one rest =
      subst (λ (l : ℕ). TakesEvents old.filtered.filter l maps (behind old.filtered.place.position item) mid.filtered.state items events) one.goes.limit
      (subst (λ (f : Filter). TakesEvents f mid.limit maps (behind old.filtered.place.position item) mid.filtered.state items events) one.goes.same
      (subst (λ (p : Option ℕ). TakesEvents mid.filtered.filter mid.limit maps p mid.filtered.state items events) one.goes.place rest))

  is_copied : (taken : Bool) (maps : TableMaps) (index : ℕ) (item : Result EventView Error) (old mid : PayloadFiltered T) → IsForCopy old
      → Takes old.filtered.filter old.limit maps old.filtered.place.position old.filtered.state item mid.filtered.state taken
      → VisitsIf Copies taken old.filtered.visitor maps index item mid.filtered.visitor → CopiesTaken item taken (contents_of old) (contents_of mid)
  is_copied true maps index (Ok event) old mid all takes does = does
  is_copied false maps index (Ok event) old mid all takes does =
      (ap contents does, λ d frame item. untaken d frame event old.filtered.filter old.limit maps _ old.filtered.state mid.filtered.state item all takes)
  is_copied true maps index (Err error) old mid all takes does = does
  is_copied false maps index (Err error) old mid all takes does = absurd (let is = takes.1 in cc)

  one_step : (old : PayloadFiltered T) (maps : TableMaps) (index : ℕ) (item : Result EventView Error) (mid : PayloadFiltered T) → IsForCopy old → FiltersPayloads Copies old (maps_behind maps item) index item mid
      → IsStep contents_of IsForCopy TakesItems old maps item mid
  one_step old maps index item mid all one = record {
    taken = one.taken;
    does = is_copied one.taken (maps_behind maps item) index item old mid all one.takes one.does;
    goes_on = λ items events others is rest. (mid.filtered.state, one.taken, one.takes, others, goes_on (maps_behind maps item) index item items old mid others one rest, is);
    for_copy = ap (λ (f : Filter). f.is_for_copy) one.goes.same ∙ all;
  }

  pub filtered_copy : (bytes stream : List ℕ) (items : List (Result EventView Error)) (old new : PayloadFiltered T) → old.filtered.filter.is_for_copy ≡ true → bytes ≡ file_header ++ stream
      → AreItems (default_description Version4) stream items → Visits (FiltersPayloads Copies) no_table_maps 0 items old new
      → IsFilteredCopy old.filtered.filter old.limit old.filtered.place.position old.filtered.state bytes (contents old.filtered.visitor) (contents new.filtered.visitor)
  filtered_copy bytes stream items old new all file are visited =
      let copied = copied_items contents_of IsForCopy TakesItems (FiltersPayloads Copies) (λ old maps. refl) one_step stream items old new all are visited in
      record {
        stream = stream;
        file = file;
        items = items;
        are = are;
        events = copied.0;
        taken = copied.1;
        written = copied.2;
        log = copied.3;
      }
