-- The items of a log with the contents of payloads spliced in: what a visitor was shown, and that there is one splice.
use Rattle.std.proofs.Common.{◌≡◌, ℕ, ◌+◌, List, [], ◌∷◌, ◌++◌, Result, refl, sym, ap, subst, ◌∙◌}
use Rattle.binlog_wire.specs.declared.error.Error.{Error}
use Rattle.binlog_events.specs.Events.{EventView}
use Rattle.binlog_file.specs.TableMapsInForce.{TableMaps, no_table_maps}
use Rattle.binlog_visits.specs.TableMaps.{maps_behind}
use Rattle.binlog_visits.specs.Visits.{VisitRelation, Visits}
use Rattle.binlog_payload_visits.specs.Parts.{Part, maps_behind_part, maps_after_parts}
use Rattle.binlog_payload_visits.specs.PartVisits.{PartVisitRelation, VisitsParts, VisitsSpliced}
use Rattle.binlog_payload_visits.specs.Splicing.{Shown, outside, numbered, AreSpliced, VisitsShown, VisitsAllSpliced}
use Rattle.binlog_payload_visits.specs.declared.spliced.Spliced.{Spliced}
use Rattle.binlog_payload_visits.proofs.PartLists.{one_list}

-- ---- one splice

pub one_splice : (limit index : ℕ) (items : List (Result EventView Error)) (shown others : List Shown) → AreSpliced limit index items shown → AreSpliced limit index items others → shown ≡ others
one_splice limit index [] shown others a b = a ∙ sym b
one_splice limit index (item ∷ items) shown others a b =
    let same = one_list limit item a.0 b.0 a.1 b.1 in
    let rest = one_splice limit (index + 1) items a.2 b.2 a.3 b.3 in
    a.4 ∙ ap (λ (ps : List Part). outside index item ∷ (numbered index 0 ps ++ a.2)) same ∙ ap (λ (ss : List Shown). outside index item ∷ (numbered index 0 b.0 ++ ss)) rest ∙ sym b.4

-- ---- what was shown

module _ {T : Type 0} (visits : VisitRelation T) (visits_part : PartVisitRelation T) where
  -- What stands outside is shown whatever the table maps inside the payload before it are.
  new_maps : (maps one other : TableMaps) (limit index : ℕ) (items : List (Result EventView Error)) (shown : List Shown) (old new : T) → AreSpliced limit index items shown
      → VisitsShown visits visits_part maps one shown old new → VisitsShown visits visits_part maps other shown old new
  new_maps maps one other limit index [] [] old new are visited = visited
  new_maps maps one other limit index [] (s ∷ shown) old new are visited = absurd cc
  new_maps maps one other limit index (item ∷ items) shown old new are visited =
      subst (λ (ss : List Shown). VisitsShown visits visits_part maps other ss old new) (sym are.4) (subst (λ (ss : List Shown). VisitsShown visits visits_part maps one ss old new) are.4 visited)

  -- Parts, and then what stands behind them.
  parts_then : (maps part_maps : TableMaps) (index number : ℕ) (parts : List Part) (others : List Shown) (old mid new : T) → VisitsParts visits_part part_maps index number parts old mid
      → VisitsShown visits visits_part maps (maps_after_parts part_maps parts) others mid new → VisitsShown visits visits_part maps part_maps (numbered index number parts ++ others) old new
  parts_then maps part_maps index number [] others old mid new done rest = subst (λ (t : T). VisitsShown visits visits_part maps part_maps others t new) done rest
  parts_then maps part_maps index number (part ∷ parts) others old mid new done rest =
      (done.0, done.1, parts_then maps (maps_behind_part part_maps part) index (number + 1) parts others done.0 mid new done.2 rest)

  -- The visits of items with their parts.
  abbrev pub SplicesEach : Spliced T → TableMaps → ℕ → Result EventView Error → Spliced T → Type 0
  SplicesEach old maps index item new = VisitsSpliced visits visits_part old.limit old.visitor maps index item new.visitor × (new.limit ≡ old.limit)

  pub all_spliced : (maps : TableMaps) (index : ℕ) (items : List (Result EventView Error)) (old new : Spliced T) → Visits SplicesEach maps index items old new
      → VisitsAllSpliced visits visits_part old.limit maps index items old.visitor new.visitor × (new.limit ≡ old.limit)
  all_spliced maps index [] old new visited = (record { shown = []; are = refl; visited = ap (λ (s : Spliced T). s.visitor) visited }, ap (λ (s : Spliced T). s.limit) visited)
  all_spliced maps index (item ∷ items) old new visited =
      let mid = visited.0 in
      let one = visited.1.0 in
      let limit : mid.limit ≡ old.limit = visited.1.1 in
      let rest = all_spliced (maps_behind maps item) (index + 1) items mid new visited.2 in
      let others = rest.0.shown in
      let are = subst (λ (l : ℕ). AreSpliced l (index + 1) items others) limit rest.0.are in
      let behind = new_maps (maps_behind maps item) no_table_maps (maps_after_parts no_table_maps one.inside.parts) old.limit (index + 1) items others mid.visitor new.visitor are rest.0.visited in (
        record {
          shown = outside index item ∷ (numbered index 0 one.inside.parts ++ others);
          are = (one.inside.parts, one.inside.all, others, are, refl);
          visited = (one.mid, one.own, parts_then (maps_behind maps item) no_table_maps index 0 one.inside.parts others one.mid mid.visitor new.visitor one.inside.visited behind);
        },
        rest.1 ∙ limit,
      )
