-- The counts by type of whole lists of items and of their parts.
use Rattle.std.proofs.Common.{◌≡◌, ℕ, ◌+◌, List, [], ◌∷◌, ◌++◌, map, Result, Ok, Err, OnOk, refl, sym, ap, subst, ◌∙◌}
use Rattle.std.proofs.lemmas.List.{map-append}
use Rattle.binlog_wire.specs.declared.error.Error.{Error}
use Rattle.binlog_events.specs.Events.{EventView}
use Rattle.binlog_file.specs.TableMapsInForce.{TableMaps, no_table_maps}
use Rattle.binlog_visits.specs.TableMaps.{maps_behind}
use Rattle.binlog_visits.specs.Visits.{VisitRelation, Visits}
use Rattle.binlog_payload_visits.specs.Parts.{Part, maps_behind_part}
use Rattle.binlog_payload_visits.specs.PartVisits.{PartVisitRelation, VisitsParts, VisitsSpliced}
use Rattle.binlog_payload_visits.specs.declared.spliced.Spliced.{Spliced}
use Rattle.binlog_commands.specs.Statistics.{no_items, CountsItem}
use Rattle.binlog_commands.specs.declared.stats.Stats.{Stats}
use Rattle.binlog_commands.proofs.WholeCounts.{all_counted}
use Rattle.change_statistics.specs.Counting.{AddsEach}
use Rattle.change_statistics.specs.TypeCounting.{CountsTyped, Typed, no_type_counts}
use Rattle.change_statistics.specs.declared.type_counts.TypeCounts.{TypeCounts}
use Rattle.change_statistics.proofs.CountedTypes.{all_typed}
use Rattle.binlog_commands.specs.SplicedCounts.{AreAllParts, AreSplicedCounts, CountsInside, CountsOutside, nothing_counted, typed}
use Rattle.binlog_commands.specs.declared.spliced_stats.SplicedStats.{SplicedStats}

abbrev Item : Type 0
Item = Result EventView Error

-- What holds anyway holds, too.
pub on_both : {T E : Type 0} (result : Result T E) (P Q : Type 0) → Q → OnOk result P → OnOk result (P × Q)
on_both (Ok x) P Q same fact = (fact, same)
on_both (Err e) P Q same fact = tt

abbrev Outside : VisitRelation SplicedStats
Outside old maps index item new = CountsOutside old index item new

abbrev Inside : PartVisitRelation SplicedStats
Inside old maps index number part new = CountsInside old part new

abbrev pub Both : VisitRelation (Spliced SplicedStats)
Both old maps index item new = VisitsSpliced Outside Inside old.limit old.visitor maps index item new.visitor × (new.limit ≡ old.limit)

abbrev Own : VisitRelation Stats
Own old maps index item new = CountsItem old index item new

-- Parts leave what is counted of the log.
same_outside : (maps : TableMaps) (index number : ℕ) (parts : List Part) (old new : SplicedStats) → VisitsParts Inside maps index number parts old new → new.outside ≡ old.outside
same_outside maps index number [] old new same = ap (λ (s : SplicedStats). s.outside) same
same_outside maps index number (part ∷ parts) old new (mid, one, visited) = same_outside (maps_behind_part maps part) index (number + 1) parts mid new visited ∙ one.1

typed_each : (maps : TableMaps) (index number : ℕ) (parts : List Part) (old new : SplicedStats) → VisitsParts Inside maps index number parts old new
    → AddsEach CountsTyped (map typed parts) old.inside new.inside
typed_each maps index number [] old new same = ap (λ (s : SplicedStats). s.inside) same
typed_each maps index number (part ∷ parts) old new (mid, one, visited) = (mid.inside, one.0, typed_each (maps_behind_part maps part) index (number + 1) parts mid new visited)

typed_both : (some others : List Part) (old mid new : TypeCounts) → AddsEach CountsTyped (map typed some) old mid → AddsEach CountsTyped (map typed others) mid new
    → AddsEach CountsTyped (map typed (some ++ others)) old new
typed_both [] others old mid new same rest = subst (λ (c : TypeCounts). AddsEach CountsTyped (map typed others) c new) same rest
typed_both (part ∷ some) others old mid new (next, one, more) rest = (next, one, typed_both some others next mid new more rest)

-- What is counted of the log is counted of its items.
outside_visited : (maps : TableMaps) (index : ℕ) (items : List Item) (old new : Spliced SplicedStats) → Visits Both maps index items old new → Visits Own maps index items old.visitor.outside new.visitor.outside
outside_visited maps index [] old new same = ap (λ (s : Spliced SplicedStats). s.visitor.outside) same
outside_visited maps index (item ∷ items) old new (mid, (spliced, same), visited) = (
  mid.visitor.outside,
  subst (λ (s : Stats). CountsItem old.visitor.outside index item s) (sym (same_outside no_table_maps index 0 spliced.inside.parts spliced.mid mid.visitor spliced.inside.visited)) spliced.own.0,
  outside_visited (maps_behind maps item) (index + 1) items mid new visited,
)

record Typing (limit : ℕ) (items : List Item) (old new : TypeCounts) : Type 0 where
  parts : List Part
  all : AreAllParts limit items parts
  each : AddsEach CountsTyped (map typed parts) old new

inside_visited : (maps : TableMaps) (index : ℕ) (items : List Item) (old new : Spliced SplicedStats) → Visits Both maps index items old new → Typing old.limit items old.visitor.inside new.visitor.inside
inside_visited maps index [] old new same = record { parts = []; all = refl; each = ap (λ (s : Spliced SplicedStats). s.visitor.inside) same }
inside_visited maps index (item ∷ items) old new (mid, (spliced, same), visited) =
    let rest = inside_visited (maps_behind maps item) (index + 1) items mid new visited in
    let own = typed_each no_table_maps index 0 spliced.inside.parts spliced.mid mid.visitor spliced.inside.visited in
    record {
      parts = spliced.inside.parts ++ rest.parts;
      all = (spliced.inside.parts, spliced.inside.all, rest.parts, subst (λ (l : ℕ). AreAllParts l items rest.parts) same rest.all, refl);
      each =
          typed_both spliced.inside.parts rest.parts old.visitor.inside mid.visitor.inside new.visitor.inside
          (subst (λ (c : TypeCounts). AddsEach CountsTyped (map typed spliced.inside.parts) c mid.visitor.inside) spliced.own.1 own) rest.each;
    }

pub types_spliced : (maps : TableMaps) (items : List Item) (old new : Spliced SplicedStats) → old.visitor ≡ nothing_counted → Visits Both maps 0 items old new → AreSplicedCounts old.limit items new.visitor
types_spliced maps items old new start visited =
    let outside = outside_visited maps 0 items old new visited in
    let inside = inside_visited maps 0 items old new visited in
    record {
      outside = all_counted maps items new.visitor.outside (subst (λ (s : SplicedStats). Visits Own maps 0 items s.outside new.visitor.outside) start outside);
      parts = inside.parts;
      all = inside.all;
      inside = all_typed (map typed inside.parts) new.visitor.inside (subst (λ (s : SplicedStats). AddsEach CountsTyped (map typed inside.parts) s.inside new.visitor.inside) start inside.each);
    }
