-- What is counted of whole lists of items and of their parts.
use Rattle.std.proofs.Common.{◌≡◌, ℕ, ◌+◌, List, [], ◌∷◌, ◌++◌, Result, Ok, Err, refl, ap, subst, ◌∙◌}
use Rattle.binlog_wire.specs.declared.error.Error.{Error}
use Rattle.binlog_events.specs.Events.{EventView}
use Rattle.binlog_file.specs.TableMapsInForce.{TableMaps, no_table_maps}
use Rattle.binlog_visits.specs.TableMaps.{maps_behind}
use Rattle.binlog_visits.specs.Visits.{VisitRelation, Visits}
use Rattle.binlog_payload_visits.specs.Parts.{Part, AreParts, maps_behind_part}
use Rattle.binlog_payload_visits.specs.PartVisits.{PartVisitRelation, VisitsAll, VisitsParts, VisitsSpliced}
use Rattle.binlog_payload_visits.specs.declared.spliced.Spliced.{Spliced}
use Rattle.change_statistics.specs.Counting.{AddsEach}
use Rattle.change_statistics.specs.Facts.{Fact}
use Rattle.binlog_statistics.specs.Counting.{CountsPart, AreOfSplicedItems, end_behind}
use Rattle.binlog_statistics.specs.SplicedFacts.{AreOneFacts, ArePartFacts, AreFactsInside, AreSplicedFacts, end_of}
use Rattle.binlog_statistics.specs.declared.counter.Counter.{Counter}
use Rattle.binlog_statistics.proofs.CountedItems.{Counts, adds_item}

abbrev Item : Type 0
Item = Result EventView Error

module _ {S : Type 0} (adds : S → Fact → S → Type 0) where
  abbrev pub CountsOne : PartVisitRelation (Counter S)
  CountsOne old maps index number part new = CountsPart adds old.end_position old.stats maps part new.stats × (new.end_position ≡ old.end_position)

  abbrev pub CountsAll : VisitRelation (Spliced (Counter S))
  CountsAll old maps index item new = VisitsSpliced (Counts adds) CountsOne old.limit old.visitor maps index item new.visitor × (new.limit ≡ old.limit)

  -- Facts are added, and then others.
  adds_both : (facts others : List Fact) (old mid new : S) → AddsEach adds facts old mid → AddsEach adds others mid new → AddsEach adds (facts ++ others) old new
  adds_both [] others old mid new same rest = subst (λ (s : S). AddsEach adds others s new) same rest
  adds_both (fact ∷ facts) others old mid new (next, one, more) rest = (next, one, adds_both facts others next mid new more rest)

  -- ---- the parts of an item

  record AddsOne (end : ℕ) (maps : TableMaps) (part : Part) (others : List Fact) (old new : S) : Type 0 where
    facts : List Fact
    seen : AreOneFacts end maps part others facts
    added : AddsEach adds facts old new

  adds_one : (end : ℕ) (maps : TableMaps) (part : Part) (others : List Fact) (old mid new : S) → CountsPart adds end old maps part mid → AddsEach adds others mid new → AddsOne end maps part others old new
  adds_one end maps (Ok event) others old mid new (fact, is, adds_it) rest = record { facts = fact ∷ others; seen = (fact, is, refl); added = (mid, adds_it, rest) }
  adds_one end maps (Err e) others old mid new same rest = record { facts = others; seen = refl; added = subst (λ (s : S). AddsEach adds others s new) same rest }

  record AddsParts (end : ℕ) (maps : TableMaps) (parts : List Part) (old new : S) : Type 0 where
    facts : List Fact
    seen : ArePartFacts end maps parts facts
    added : AddsEach adds facts old new

  adds_parts : (end : ℕ) (maps : TableMaps) (index number : ℕ) (parts : List Part) (old new : Counter S) → old.end_position ≡ end → VisitsParts CountsOne maps index number parts old new
      → AddsParts end maps parts old.stats new.stats
  adds_parts end maps index number [] old new is same = record { facts = []; seen = refl; added = ap (λ (c : Counter S). c.stats) same }
  adds_parts end maps index number (part ∷ parts) old new is (mid, one, visited) =
      let behind = maps_behind_part maps part in
      let rest = adds_parts end behind index (number + 1) parts mid new (one.1 ∙ is) visited in
      let counts = subst (λ (e : ℕ). CountsPart adds e old.stats behind part mid.stats) is one.0 in
      let first = adds_one end behind part rest.facts old.stats mid.stats new.stats counts rest.added in
      record { facts = first.facts; seen = (rest.facts, rest.seen, first.seen); added = first.added }

  record AddsInside (limit : ℕ) (item : Item) (old new : S) : Type 0 where
    facts : List Fact
    seen : AreFactsInside limit item facts
    added : AddsEach adds facts old new

  adds_inside : (limit index : ℕ) (item : Item) (end : ℕ) (old new : Counter S) → old.end_position ≡ end_behind end item → VisitsAll CountsOne (AreParts limit item) index old new
      → AddsInside limit item old.stats new.stats
  adds_inside limit index (Ok event) end old new is inside =
      let added = adds_parts (end_of (Ok event)) no_table_maps index 0 inside.parts old new is inside.visited in
      record { facts = added.facts; seen = record { parts = inside.parts; are = inside.all; seen = added.seen }; added = added.added }
  adds_inside limit index (Err error) end old new is inside =
      let same = subst (λ (parts : List Part). VisitsParts CountsOne no_table_maps index 0 parts old new) inside.all inside.visited in
      record { facts = []; seen = record { parts = []; are = refl; seen = refl }; added = ap (λ (c : Counter S). c.stats) same }

  -- ---- items

  pub counts_spliced : (maps : TableMaps) (index : ℕ) (items : List Item) (old new : Spliced (Counter S)) → Visits CountsAll maps index items old new
      → AreOfSplicedItems (λ facts stats. AddsEach adds facts old.visitor.stats stats) old.limit maps items new.visitor.stats
  counts_spliced maps index [] old new same = record { facts = []; seen = refl; counted = ap (λ (s : Spliced (Counter S)). s.visitor.stats) same }
  counts_spliced maps index (item ∷ items) old new (mid, (spliced, same), visited) =
      let behind = maps_behind maps item in
      let rest = counts_spliced behind (index + 1) items mid new visited in
      let inside = adds_inside old.limit index item old.visitor.end_position spliced.mid mid.visitor spliced.own.1 spliced.inside in
      let more = adds_both inside.facts rest.facts spliced.mid.stats mid.visitor.stats new.visitor.stats inside.added rest.counted in
      let first = adds_item adds behind item (inside.facts ++ rest.facts) old.visitor.stats spliced.mid.stats new.visitor.stats spliced.own.0 more in
      record {
        facts = first.facts;
        seen = (rest.facts, subst (λ (l : ℕ). AreSplicedFacts l behind items rest.facts) same rest.seen, inside.facts, inside.seen, first.seen);
        counted = first.added;
      }

-- What follows for the statistics of the same events.
pub spliced_are : {S T : Type 0} (are : List Fact → S → Type 0) (others : List Fact → T → Type 0) (stats : S) (end : T) → ((facts : List Fact) → are facts stats → others facts end)
    → (limit : ℕ) (maps : TableMaps) (items : List Item) → AreOfSplicedItems are limit maps items stats → AreOfSplicedItems others limit maps items end
spliced_are are others stats end follows limit maps items of = record { facts = of.facts; seen = of.seen; counted = follows of.facts of.counted }
