-- What is counted of whole lists of items.
use Rattle.std.proofs.Common.{◌≡◌, ℕ, ◌+◌, Bool, true, false, List, [], ◌∷◌, Option, Result, Ok, Err, refl, ap, subst}
use Rattle.binlog_wire.specs.declared.error.Error.{Error}
use Rattle.binlog_events.specs.Events.{EventView}
use Rattle.binlog_file.specs.TableMapsInForce.{TableMaps}
use Rattle.binlog_visits.specs.TableMaps.{maps_behind}
use Rattle.binlog_visits.specs.Visits.{VisitRelation, Visits}
use Rattle.binlog_filters.specs.Places.{behind}
use Rattle.binlog_filters.specs.Filtering.{Filters, VisitsIf}
use Rattle.binlog_filters.specs.declared.filter.Filter.{Filter}
use Rattle.binlog_filters.specs.declared.state.FilterState.{FilterState}
use Rattle.binlog_filters.specs.declared.filtered.Filtered.{Filtered}
use Rattle.change_statistics.specs.Counting.{AddsEach}
use Rattle.change_statistics.specs.Facts.{Fact}
use Rattle.binlog_statistics.specs.ItemFacts.{AreItemFacts, AreFactsIf, AreTakenFacts}
use Rattle.binlog_statistics.specs.Counting.{CountsItem, AreOfItems, AreOfTakenItems, end_behind}
use Rattle.binlog_statistics.specs.declared.counter.Counter.{Counter}

abbrev Item : Type 0
Item = Result EventView Error

module _ {S : Type 0} (adds : S → Fact → S → Type 0) where
  abbrev pub Counts : VisitRelation (Counter S)
  Counts old maps index item new = CountsItem adds old.stats maps item new.stats × (new.end_position ≡ end_behind old.end_position item)

  -- An item is counted, and then others.
  pub record AddsItem (maps : TableMaps) (item : Item) (others : List Fact) (old new : S) : Type 0 where
    pub facts : List Fact
    pub seen : AreItemFacts maps item others facts
    pub added : AddsEach adds facts old new

  pub adds_item : (maps : TableMaps) (item : Item) (others : List Fact) (old mid new : S) → CountsItem adds old maps item mid → AddsEach adds others mid new → AddsItem maps item others old new
  adds_item maps (Ok event) others old mid new (fact, is, adds_one) rest = record { facts = fact ∷ others; seen = (fact, is, refl); added = (mid, adds_one, rest) }
  adds_item maps (Err error) others old mid new same rest = record { facts = others; seen = refl; added = subst (λ (s : S). AddsEach adds others s new) same rest }

  pub counts_all : (maps : TableMaps) (index : ℕ) (items : List Item) (old new : Counter S) → Visits Counts maps index items old new
      → AreOfItems (λ facts stats. AddsEach adds facts old.stats stats) maps items new.stats
  counts_all maps index [] old new same = record { facts = []; seen = refl; counted = ap (λ (c : Counter S). c.stats) same }
  counts_all maps index (item ∷ items) old new (mid, one, visited) =
      let rest = counts_all (maps_behind maps item) (index + 1) items mid new visited in
      let first = adds_item (maps_behind maps item) item rest.facts old.stats mid.stats new.stats one.0 rest.counted in
      record { facts = first.facts; seen = (rest.facts, rest.seen, first.seen); counted = first.added }

  -- ---- the items that a filter takes

  record AddsIfTaken (taken : Bool) (maps : TableMaps) (item : Item) (others : List Fact) (old new : S) : Type 0 where
    facts : List Fact
    seen : AreFactsIf taken maps item others facts
    added : AddsEach adds facts old new

  adds_if_taken : (taken : Bool) (maps : TableMaps) (index : ℕ) (item : Item) (others : List Fact) (old mid : Counter S) (new : S) → VisitsIf Counts taken old maps index item mid
      → AddsEach adds others mid.stats new → AddsIfTaken taken maps item others old.stats new
  adds_if_taken true maps index item others old mid new one rest =
      let first = adds_item maps item others old.stats mid.stats new one.0 rest in
      record { facts = first.facts; seen = first.seen; added = first.added }
  adds_if_taken false maps index item others old mid new same rest =
      record { facts = others; seen = refl; added = subst (λ (c : Counter S). AddsEach adds others c.stats new) same rest }

  -- The same filter goes on behind an item.
  goes_on : (maps : TableMaps) (index : ℕ) (item : Item) (items : List Item) (old mid : Filtered (Counter S)) (facts : List Fact) → Filters Counts old maps index item mid
      → AreTakenFacts mid.filter maps mid.place.position mid.state items facts → AreTakenFacts old.filter maps (behind old.place.position item) mid.state items facts
  goes_on maps index item items old mid facts one rest =
      subst (λ (f : Filter). AreTakenFacts f maps (behind old.place.position item) mid.state items facts) one.same
      (subst (λ (p : Option ℕ). AreTakenFacts mid.filter maps p mid.state items facts) one.place rest)

  pub counts_taken : (maps : TableMaps) (index : ℕ) (items : List Item) (old new : Filtered (Counter S)) → Visits (Filters Counts) maps index items old new
      → AreOfTakenItems (λ facts stats. AddsEach adds facts old.visitor.stats stats) old.filter maps old.place.position old.state items new.visitor.stats
  counts_taken maps index [] old new same = record { facts = []; seen = refl; counted = ap (λ (f : Filtered (Counter S)). f.visitor.stats) same }
  counts_taken maps index (item ∷ items) old new (mid, one, visited) =
      let rest = counts_taken (maps_behind maps item) (index + 1) items mid new visited in
      let first = adds_if_taken one.taken (maps_behind maps item) index item rest.facts old.visitor mid.visitor new.visitor.stats one.does rest.counted in
      record {
        facts = first.facts;
        seen = (mid.state, one.taken, one.takes, rest.facts, goes_on (maps_behind maps item) index item items old mid rest.facts one rest.seen, first.seen);
        counted = first.added;
      }

-- What follows for the statistics of the same events.
module _ {S T : Type 0} (are : List Fact → S → Type 0) (others : List Fact → T → Type 0) (stats : S) (end : T) (follows : (facts : List Fact) → are facts stats → others facts end) where
  pub all_are : (maps : TableMaps) (items : List Item) → AreOfItems are maps items stats → AreOfItems others maps items end
  all_are maps items of = record { facts = of.facts; seen = of.seen; counted = follows of.facts of.counted }

  pub taken_are : (filter : Filter) (maps : TableMaps) (position : Option ℕ) (was : FilterState) (items : List Item) → AreOfTakenItems are filter maps position was items stats
      → AreOfTakenItems others filter maps position was items end
  taken_are filter maps position was items of = record { facts = of.facts; seen = of.seen; counted = follows of.facts of.counted }
