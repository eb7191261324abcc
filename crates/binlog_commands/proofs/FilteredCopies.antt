-- The copy of the events that a filter takes is a log of these events.
use Rattle.std.proofs.Common.{◌≡◌, ℕ, ◌+◌, Bool, true, false, ◌||◌, List, ◌++◌, Option, Result, Ok, Err, refl, ap, subst, ◌∙◌}
use Rattle.binlog_wire.specs.declared.error.Error.{Error}
use Rattle.binlog_consts.specs.declared.version.BinlogVersion.TheVariants.{Version4}
use Rattle.binlog_event_format.specs.FormatDescription.{default_description}
use Rattle.binlog_events.specs.FileHeader.{file_header}
use Rattle.binlog_events.specs.Events.{EventView}
use Rattle.binlog_file.specs.StreamItems.{AreItems}
use Rattle.binlog_file.specs.TableMapsInForce.{TableMaps, no_table_maps}
use Rattle.binlog_visits.specs.TableMaps.{maps_behind}
use Rattle.binlog_visits.specs.Visits.{VisitRelation, Visits}
use Rattle.binlog_filters.specs.Concerns.{is_concerned}
use Rattle.binlog_filters.specs.Places.{start_of, behind}
use Rattle.binlog_filters.specs.Taking.{Takes, TakesEvents, takes_begin}
use Rattle.binlog_filters.specs.Filtering.{Filters, VisitsIf}
use Rattle.binlog_filters.specs.declared.filter.Filter.{Filter}
use Rattle.binlog_filters.specs.declared.filtered.Filtered.{Filtered}
use Rattle.binlog_filters.specs.Copying.{CopiesItem}
use Rattle.binlog_filters.proofs.CopiedItems.{left_out, CopiesTaken, IsStep, copied_items}
use Rattle.binlog_commands.specs.FilteredCopies.{IsFilteredCopy}

module _ {T : Type 0} (contents : T → Option (List ℕ)) where
  abbrev contents_of : Filtered T → Option (List ℕ)
  contents_of filtered = contents filtered.visitor

  abbrev IsForCopy : Filtered T → Type 0
  IsForCopy filtered = filtered.filter.is_for_copy ≡ true

  abbrev TakesItems : Filtered T → TableMaps → List (Result EventView Error) → List EventView → Type 0
  TakesItems filtered maps items events = TakesEvents filtered.filter maps filtered.place.position filtered.state items events

  -- A visit writes the bytes of the item's event.
  abbrev Copies : VisitRelation T
  Copies old maps index item new = CopiesItem item (contents old) (contents new)

  -- The same filter goes on behind an item.
  goes_on : (maps : TableMaps) (index : ℕ) (item : Result EventView Error) (items : List (Result EventView Error)) (old mid : Filtered T) (events : List EventView) → Filters Copies old maps index item mid
      → TakesItems mid maps items events → TakesEvents old.filter maps (behind old.place.position item) mid.state items events
  goes_on maps index item items old mid events one rest =
      subst (λ (f : Filter). TakesEvents f maps (behind old.place.position item) mid.state items events) one.same
      (subst (λ (p : Option ℕ). TakesEvents mid.filter maps p mid.state items events) one.place rest)

  is_copied : (taken : Bool) (maps : TableMaps) (index : ℕ) (item : Result EventView Error) (old mid : Filtered T) → IsForCopy old → Takes old.filter maps old.place.position old.state item mid.state taken
      → VisitsIf Copies taken old.visitor maps index item mid.visitor → CopiesTaken item taken (contents_of old) (contents_of mid)
  is_copied true maps index (Ok event) old mid all takes does = does
  is_copied false maps index (Ok event) old mid all takes does = (
    ap contents does,
    λ d frame item. left_out d frame event old.filter (start_of old.place.position event) mid.state.is_wanted (is_concerned old.filter.is_for_copy old.state.is_in_statement takes.concern || takes_begin old.filter event) item all takes.is,
  )
  is_copied true maps index (Err error) old mid all takes does = does
  is_copied false maps index (Err error) old mid all takes does = absurd (let is = takes.1 in cc)

  one_step : (old : Filtered T) (maps : TableMaps) (index : ℕ) (item : Result EventView Error) (mid : Filtered T) → IsForCopy old → Filters Copies old (maps_behind maps item) index item mid
      → IsStep contents_of IsForCopy TakesItems old maps item mid
  one_step old maps index item mid all one = record {
    taken = one.taken;
    does = is_copied one.taken (maps_behind maps item) index item old mid all one.takes one.does;
    goes_on = λ items events others is rest. (mid.state, one.taken, one.takes, others, goes_on (maps_behind maps item) index item items old mid others one rest, is);
    for_copy = ap (λ (f : Filter). f.is_for_copy) one.same ∙ all;
  }

  pub filtered_copy : (bytes stream : List ℕ) (items : List (Result EventView Error)) (old new : Filtered T) → old.filter.is_for_copy ≡ true → bytes ≡ file_header ++ stream
      → AreItems (default_description Version4) stream items → Visits (Filters Copies) no_table_maps 0 items old new
      → IsFilteredCopy old.filter old.place.position old.state bytes (contents old.visitor) (contents new.visitor)
  filtered_copy bytes stream items old new all file are visited =
      let copied = copied_items contents_of IsForCopy TakesItems (Filters Copies) (λ old maps. refl) one_step stream items old new all are visited in
      record {
        stream = stream;
        file = file;
        items = items;
        are = are;
        events = copied.0;
        taken = copied.1;
        written = copied.2;
        log = copied.3;
      }
