-- The number of items of which a part is an error.
use Rattle.std.proofs.Common.{◌≡◌, ℕ, ◌+◌, List, [], ◌∷◌, Option, Some, None, Result, Ok, Err, OnOk, IfErr, inl, refl, sym, ap, subst, ◌∙◌, arith}
use Rattle.binlog_wire.specs.declared.error.Error.{Error}
use Rattle.binlog_events.specs.Events.{EventView}
use Rattle.binlog_file.specs.TableMapsInForce.{TableMaps}
use Rattle.binlog_visits.specs.TableMaps.{maps_behind}
use Rattle.binlog_visits.specs.Visits.{VisitRelation, RefusalRelation, Visits}
use Rattle.binlog_payload_visits.specs.Parts.{Part}
use Rattle.binlog_payload_visits.specs.PartVisits.{PartVisitRelation, VisitsSpliced}
use Rattle.binlog_payload_visits.specs.Splicing.{VisitsAllSpliced}
use Rattle.binlog_payload_visits.specs.declared.spliced.Spliced.{Spliced}
use Rattle.binlog_payload_visits.proofs.PartLists.{one_list}
use Rattle.binlog_payload_visits.proofs.Splicing.{all_spliced, SplicesEach}
use Rattle.binlog_payload_visits.specs.Checking.{ChecksItem, RefusesChecked}
use Rattle.binlog_payload_visits.specs.Damaged.{saturated, damaged_behind, one_if, HaveDamaged}
use Rattle.binlog_payload_visits.specs.Finding.{first_error, IsFirstError}
use Rattle.binlog_payload_visits.specs.Noting.{NotesItem, NotesPart}
use Rattle.binlog_payload_visits.specs.declared.checked.Checked.{Checked}
use Rattle.binlog_payload_visits.specs.declared.noted.Noted.{Noted}
use Rattle.binlog_payload_visits.specs.declared.part_error.PartError.{PartError}
use Rattle.binlog_payload_visits.proofs.NotedItems.{item_noted}

pub one_first_error : (limit : ℕ) (item : Result EventView Error) (found other : Option PartError) → IsFirstError limit item found → IsFirstError limit item other → found ≡ other
one_first_error limit item found other a b = a.2 ∙ ap (λ (parts : List Part). first_error 0 parts) (one_list limit item a.0 b.0 a.1 b.1) ∙ sym b.2

-- ---- one count more

one_more : (found : Option PartError) (old before : ℕ) → old ≡ saturated before → damaged_behind found old ≡ saturated (before + one_if found)
one_more None old before was = omega arith
one_more (Some e) old before was = omega arith

-- ---- an error in the place of an event

module _ {T : Type 0} where
  pub error_checked : {A E : Type 0} (result : Result A E) (visits : VisitRelation T) (old : Checked T) (maps : TableMaps) (index : ℕ) (error : Error) (new : T)
      → OnOk result (visits old.visitor maps index (Err error) new) → OnOk result (ChecksItem visits old maps index (Err error) (record old { visitor = new }))
  error_checked (Ok x) visits old maps index error new does = record { does = does; found = None; first = ([], refl, refl); damaged = refl; same = refl }
  error_checked (Err e) visits old maps index error new does = does

  pub error_refused : {A : Type 0} (result : Result A Error) (visits : VisitRelation T) (refuses : RefusalRelation T) (old : Checked T) (maps : TableMaps) (index : ℕ) (item : Result EventView Error) (new : T)
      → IfErr result (λ e. refuses old.visitor maps index item e new) → IfErr result (λ e. RefusesChecked visits refuses old maps index item e (record old { visitor = new }))
  error_refused (Ok x) visits refuses old maps index item new does = does
  error_refused (Err e) visits refuses old maps index item new does = inl (record { refused = does; damaged = refl; same = refl })

-- ---- all items

module _ {T : Type 0} (visits : VisitRelation T) where
  pub all_checked : (maps : TableMaps) (index : ℕ) (items : List (Result EventView Error)) (old new : Checked T) (before : ℕ) → old.damaged ≡ saturated before → Visits (ChecksItem visits) maps index items old new
      → Visits visits maps index items old.visitor new.visitor × ((n : ℕ) × HaveDamaged old.limit items n × (new.damaged ≡ saturated (before + n)))
  all_checked maps index [] old new before was visited =
      (ap (λ (c : Checked T). c.visitor) visited, (0, refl, ap (λ (c : Checked T). c.damaged) visited ∙ was ∙ ap saturated (omega arith)))
  all_checked maps index (item ∷ items) old new before was visited =
      let mid : Checked T = visited.0 in
      let one = visited.1 in
      let now = one.damaged ∙ one_more one.found old.damaged before was in
      let rest = all_checked (maps_behind maps item) (index + 1) items mid new (before + one_if one.found) now visited.2 in
      let n = rest.1.0 in (
        (mid.visitor, one.does, rest.0),
        (
          one_if one.found + n,
          (one.found, one.first, n, subst (λ (limit : ℕ). HaveDamaged limit items n) one.same rest.1.1, refl),
          rest.1.2 ∙ ap saturated (omega arith),
        ),
      )

module _ {T : Type 0} (visits : VisitRelation T) (visits_part : PartVisitRelation T) where
  -- The visits of items with their parts, by a visitor that notes errors.
  abbrev NotesEach : Spliced (Noted T) → TableMaps → ℕ → Result EventView Error → Spliced (Noted T) → Type 0
  NotesEach old maps index item new = VisitsSpliced (NotesItem visits) (NotesPart visits_part) old.limit old.visitor maps index item new.visitor × (new.limit ≡ old.limit)

  -- The same without what is noted.
  abbrev unnoted : Spliced (Noted T) → Spliced T
  unnoted spliced = record { alloc = spliced.alloc; limit = spliced.limit; visitor = spliced.visitor.visitor }

  all_shown : (maps : TableMaps) (index : ℕ) (items : List (Result EventView Error)) (old new : Spliced (Noted T)) → Visits NotesEach maps index items old new
      → Visits (SplicesEach visits visits_part) maps index items (unnoted old) (unnoted new)
  all_shown maps index [] old new visited = ap unnoted visited
  all_shown maps index (item ∷ items) old new visited =
      let one = item_noted visits visits_part old.limit old.visitor (maps_behind maps item) index item visited.0.visitor visited.1.0 in
      (unnoted visited.0, (one.shown, visited.1.1), all_shown (maps_behind maps item) (index + 1) items visited.0 new visited.2)

  all_counted : (maps : TableMaps) (index : ℕ) (items : List (Result EventView Error)) (old new : Spliced (Noted T)) (before : ℕ) → old.visitor.damaged ≡ saturated before → Visits NotesEach maps index items old new
      → (n : ℕ) × HaveDamaged old.limit items n × (new.visitor.damaged ≡ saturated (before + n))
  all_counted maps index [] old new before was visited = (0, refl, ap (λ (s : Spliced (Noted T)). s.visitor.damaged) visited ∙ was ∙ ap saturated (omega arith))
  all_counted maps index (item ∷ items) old new before was visited =
      let mid : Spliced (Noted T) = visited.0 in
      let one = item_noted visits visits_part old.limit old.visitor (maps_behind maps item) index item mid.visitor visited.1.0 in
      let found = mid.visitor.first_error in
      let now = one.damaged ∙ one_more found old.visitor.damaged before was in
      let rest = all_counted (maps_behind maps item) (index + 1) items mid new (before + one_if found) now visited.2 in (
        one_if found + rest.0,
        (found, one.found, rest.0, subst (λ (limit : ℕ). HaveDamaged limit items rest.0) visited.1.1 rest.1, refl),
        rest.2 ∙ ap saturated (omega arith),
      )

  pub all_noted : (maps : TableMaps) (index : ℕ) (items : List (Result EventView Error)) (old new : Spliced (Noted T)) (before : ℕ) → old.visitor.damaged ≡ saturated before → Visits NotesEach maps index items old new
      → VisitsAllSpliced visits visits_part old.limit maps index items old.visitor.visitor new.visitor.visitor × ((n : ℕ) × HaveDamaged old.limit items n × (new.visitor.damaged ≡ saturated (before + n)))
  all_noted maps index items old new before was visited =
      let shown = all_spliced visits visits_part maps index items (unnoted old) (unnoted new) (all_shown maps index items old new visited) in
      (shown.0, all_counted maps index items old new before was visited)
