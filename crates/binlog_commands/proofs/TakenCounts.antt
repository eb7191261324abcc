-- The counts of the items that a filter takes.
use Rattle.std.proofs.Common.{◌≡◌, ℕ, ◌+◌, ◌<◌, Bool, true, false, cond, ltb, List, [], ◌∷◌, ◌++◌, length, get_or, Option, Some, None, Result, Ok, Err, refl, sym, ap, subst, ◌∙◌, arith, append_assoc, append-nil}
use Rattle.std.specs.Prelude.{map, option_map}
use Rattle.std.proofs.lemmas.List.{length-append, length-map, map-append, get_or_append_left}
use Rattle.binlog_wire.specs.declared.error.Error.{Error}
use Rattle.binlog_events.specs.Events.{EventView}
use Rattle.binlog_file.specs.TableMapsInForce.{TableMaps}
use Rattle.binlog_visits.specs.TableMaps.{maps_behind}
use Rattle.binlog_visits.specs.Visits.{VisitRelation, Visits}
use Rattle.binlog_filters.specs.Places.{behind}
use Rattle.binlog_filters.specs.Filtering.{Filters, VisitsIf}
use Rattle.binlog_filters.specs.declared.filter.Filter.{Filter}
use Rattle.binlog_filters.specs.declared.state.FilterState.{FilterState}
use Rattle.binlog_filters.specs.declared.filtered.Filtered.{Filtered}
use Rattle.binlog_commands.specs.Counting.{counted, none_counted, Counts}
use Rattle.binlog_commands.specs.Statistics.{no_items, larger, CountsItem}
use Rattle.binlog_commands.specs.WholeCounts.{size_of, IsLargest}
use Rattle.binlog_commands.specs.TakenCounts.{Indexed, index_of, item_of, with_item, TakesItems, in_log, stats_in_log, AreTakenCounted, AreTakenTallied}
use Rattle.binlog_commands.specs.declared.stats.Stats.{Stats}
use Rattle.binlog_commands.specs.declared.stats.Largest.{Largest}
use Rattle.binlog_commands.specs.declared.tally.Tally.{Tally}
use Rattle.binlog_commands.proofs.WholeCounts.{FindsLargest, as_largest, Counted, none_is_counted, with_event, item_counted, Tallies, all_tallied}

abbrev Item : Type 0
Item = Result EventView Error

-- ---- what is shown

-- `does` says what a visit of an item with an index makes of the visitor.
module _ {T : Type 0} (does : T → ℕ → Item → T → Type 0) where
  abbrev Does : VisitRelation T
  Does old maps index item new = does old index item new

  -- These items are shown one after another.
  abbrev ShowsEach : List Indexed → T → T → Type 0
  ShowsEach [] old new = new ≡ old
  ShowsEach (x ∷ shown) old new = (mid : T) × does old x.0 x.1 mid × ShowsEach shown mid new

  record ShowsTaken (filter : Filter) (maps : TableMaps) (position : Option ℕ) (was : FilterState) (index : ℕ) (items : List Item) (old new : T) : Type 0 where
    shown : List Indexed
    taken : TakesItems filter maps position was index items shown
    each : ShowsEach shown old new

  shows_item : (taken : Bool) (maps : TableMaps) (index : ℕ) (item : Item) (old mid new : T) (others : List Indexed) → VisitsIf Does taken old maps index item mid → ShowsEach others mid new
      → ShowsEach (with_item taken (index, item) others) old new
  shows_item true maps index item old mid new others one rest = (mid, one, rest)
  shows_item false maps index item old mid new others one rest = subst (λ (t : T). ShowsEach others t new) one rest

  -- The same filter goes on behind an item.
  goes_on : (maps : TableMaps) (index : ℕ) (item : Item) (items : List Item) (old mid : Filtered T) (shown : List Indexed) → Filters Does old maps index item mid
      → TakesItems mid.filter maps mid.place.position mid.state (index + 1) items shown → TakesItems old.filter maps (behind old.place.position item) mid.state (index + 1) items shown
  goes_on maps index item items old mid shown one rest =
      subst (λ (f : Filter). TakesItems f maps (behind old.place.position item) mid.state (index + 1) items shown) one.same
      (subst (λ (p : Option ℕ). TakesItems mid.filter maps p mid.state (index + 1) items shown) one.place rest)

  shows_taken : (maps : TableMaps) (index : ℕ) (items : List Item) (old new : Filtered T) → Visits (Filters Does) maps index items old new
      → ShowsTaken old.filter maps old.place.position old.state index items old.visitor new.visitor
  shows_taken maps index [] old new visited = record { shown = []; taken = refl; each = ap (λ (f : Filtered T). f.visitor) visited }
  shows_taken maps index (item ∷ items) old new visited =
      let mid = visited.0 in
      let one = visited.1 in
      let rest = shows_taken (maps_behind maps item) (index + 1) items mid new visited.2 in
      record {
        shown = with_item one.taken (index, item) rest.shown;
        taken = (mid.state, one.taken, one.takes, rest.shown, goes_on (maps_behind maps item) index item items old mid rest.shown one rest.taken, refl);
        each = shows_item one.taken (maps_behind maps item) index item old.visitor mid.visitor new.visitor rest.shown one.does rest.each;
      }

-- ---- the index of the largest event

module _ (done : List Indexed) (x : Indexed) where
  index_kept : (n : ℕ) → n < length done → get_or (map index_of (done ++ x ∷ [])) n 0 ≡ get_or (map index_of done) n 0
  index_kept n within =
      ap (λ (l : List ℕ). get_or l n 0) (map-append index_of done (x ∷ []))
      ∙ get_or_append_left (map index_of done) (map index_of (x ∷ [])) 0 n (omega (arith, length-map done index_of))

  items_more : map item_of (done ++ x ∷ []) ≡ map item_of done ++ x.1 ∷ []
  items_more = map-append item_of done (x ∷ [])

  largest_within : (largest : Largest) → IsLargest (map item_of done) largest → largest.index < length done
  largest_within largest is =
      let long : length done ≡ length (is.before ++ Ok is.event ∷ is.behind) = sym (length-map done item_of) ∙ ap length is.whole in
      omega (arith, is.index, long, length-append is.before (Ok is.event ∷ is.behind))

  -- One more item behind them leaves the index.
  stays_in_log : (found : Option Largest) → FindsLargest (map item_of done) found → option_map (in_log done) found ≡ option_map (in_log (done ++ x ∷ [])) found
  stays_in_log None none = refl
  stays_in_log (Some largest) is = ap (λ (n : ℕ). Some (record largest { index = n })) (sym (index_kept largest.index (largest_within largest is)))

index_last : (done : List Indexed) (x : Indexed) → get_or (map index_of (done ++ x ∷ [])) (length (map item_of done)) 0 ≡ x.0
index_last [] x = refl
index_last (y ∷ done) x = index_last done x

module _ (done : List Indexed) (index : ℕ) (event : EventView) where
  abbrev Behind : List Indexed
  Behind = done ++ (index, Ok event) ∷ []

  new_in_log : Some (as_largest index event) ≡ option_map (in_log Behind) (Some (as_largest (length (map item_of done)) event))
  new_in_log = ap (λ (n : ℕ). Some (as_largest n event)) (sym (index_last done (index, Ok event)))

  larger_in_log_by : (largest : Largest) → IsLargest (map item_of done) largest → (b : Bool)
      → cond b (Some (as_largest index event)) (Some (in_log done largest)) ≡ option_map (in_log Behind) (cond b (Some (as_largest (length (map item_of done)) event)) (Some largest))
  larger_in_log_by largest is true = new_in_log
  larger_in_log_by largest is false = stays_in_log done (index, Ok event) (Some largest) is

  larger_in_log : (found : Option Largest) → FindsLargest (map item_of done) found
      → larger (option_map (in_log done) found) (as_largest index event) ≡ option_map (in_log Behind) (larger found (as_largest (length (map item_of done)) event))
  larger_in_log None none = new_in_log
  larger_in_log (Some largest) is = larger_in_log_by largest is (ltb largest.size (size_of event))

-- ---- statistics

-- The statistics behind one more item, and those of these items alone.
record CountsMore (done : List Indexed) (x : Indexed) (stats : Stats) : Type 0 where
  alone : Stats
  all : Counted (map item_of (done ++ x ∷ [])) alone
  is : stats ≡ stats_in_log (done ++ x ∷ []) alone

counts_more : (maps : TableMaps) (done : List Indexed) (x : Indexed) (plain stats : Stats) → Counted (map item_of done) plain → CountsItem (stats_in_log done plain) x.0 x.1 stats → CountsMore done x stats
counts_more maps done (index, Ok event) plain stats was is =
    let behind : Stats = with_event plain (length (map item_of done)) event in
    record {
      alone = behind;
      all = subst (λ (items : List Item). Counted items behind) (sym (items_more done (index, Ok event))) (item_counted (map item_of done) (Ok event) maps plain behind was refl);
      is = is ∙ ap (λ (found : Option Largest). record behind { largest = found }) (larger_in_log done index event plain.largest was.all.largest);
    }
counts_more maps done (index, Err error) plain stats was is =
    let behind : Stats = record plain { errors = counted plain.errors 1 } in
    record {
      alone = behind;
      all = subst (λ (items : List Item). Counted items behind) (sym (items_more done (index, Err error))) (item_counted (map item_of done) (Err error) maps plain behind was refl);
      is = is ∙ ap (λ (found : Option Largest). record behind { largest = found }) (stays_in_log done (index, Err error) plain.largest was.all.largest);
    }

record CountsAlone (shown : List Indexed) (stats : Stats) : Type 0 where
  alone : Stats
  all : Counted (map item_of shown) alone
  is : stats ≡ stats_in_log shown alone

counts_alone : (maps : TableMaps) (done shown : List Indexed) (plain new : Stats) → Counted (map item_of done) plain → ShowsEach CountsItem shown (stats_in_log done plain) new → CountsAlone (done ++ shown) new
counts_alone maps done [] plain new was same = subst (λ (l : List Indexed). CountsAlone l new) (sym (append-nil done)) (record { alone = plain; all = was; is = same })
counts_alone maps done (x ∷ shown) plain new was each =
    let more = counts_more maps done x plain each.0 was each.1 in
    subst (λ (l : List Indexed). CountsAlone l new) (append_assoc done (x ∷ []) shown)
    (counts_alone maps (done ++ x ∷ []) shown more.alone new more.all (subst (λ (s : Stats). ShowsEach CountsItem shown s new) more.is each.2))

pub taken_counted : (maps : TableMaps) (items : List Item) (old new : Filtered Stats) → old.visitor ≡ no_items → Visits (Filters (λ before maps index item after. CountsItem before index item after)) maps 0 items old new
    → AreTakenCounted old.filter maps old.place.position old.state items new.visitor
taken_counted maps items old new start visited =
    let shows = shows_taken CountsItem maps 0 items old new visited in
    let alone = counts_alone maps [] shows.shown no_items new.visitor none_is_counted (subst (λ (s : Stats). ShowsEach CountsItem shows.shown s new.visitor) start shows.each) in
    record { shown = shows.shown; taken = shows.taken; alone = alone.alone; counted = alone.all.all; is = alone.is }

-- ---- tallies

abbrev TalliesAt : Tally → ℕ → Item → Tally → Type 0
TalliesAt old index item new = Counts old item new

-- A tally doesn't depend on the indexes.
tallied_alone : (maps : TableMaps) (index : ℕ) (shown : List Indexed) (old new : Tally) → ShowsEach TalliesAt shown old new → Visits Tallies maps index (map item_of shown) old new
tallied_alone maps index [] old new same = same
tallied_alone maps index (x ∷ shown) old new each = (each.0, each.1, tallied_alone (maps_behind maps x.1) (index + 1) shown each.0 new each.2)

pub taken_tallied : (maps : TableMaps) (items : List Item) (old new : Filtered Tally) → old.visitor ≡ none_counted → Visits (Filters (λ before maps index item after. Counts before item after)) maps 0 items old new
    → AreTakenTallied old.filter maps old.place.position old.state items new.visitor
taken_tallied maps items old new start visited =
    let shows = shows_taken TalliesAt maps 0 items old new visited in
    let each = subst (λ (s : Tally). ShowsEach TalliesAt shows.shown s new.visitor) start shows.each in
    record { shown = shows.shown; taken = shows.taken; tallied = all_tallied maps (map item_of shows.shown) new.visitor (tallied_alone maps 0 shows.shown none_counted new.visitor each) }
