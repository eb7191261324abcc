-- Whether a part of an event is taken, by the visits of its parts.
use Rattle.std.proofs.Common.{◌≡◌, inl, inr, ℕ, ◌+◌, Bool, true, false, List, [], ◌∷◌, Result, Ok, Err, refl, ap, subst, ◌∙◌}
use Rattle.std.specs.Borrow.{Bor}
use Rattle.binlog_wire.specs.declared.error.Error.{Error}
use Rattle.binlog_wire.specs.declared.error.Error.TheVariants.{Memory}
use Rattle.binlog_events.specs.Events.{EventView}
use Rattle.binlog_file.specs.TableMapsInForce.{TableMaps, no_table_maps}
use Rattle.binlog_filters.specs.declared.tables.TableFilter.{TableFilter}
use Rattle.binlog_payloads.specs.declared.error.PayloadError.{PayloadError}
use Rattle.binlog_payload_visits.specs.Parts.{Part, AreParts, IsCompressed, maps_behind_part}
use Rattle.binlog_payload_visits.specs.PartVisits.{VisitsParts, VisitsSpliced, StopsInside, RefusesSpliced}
use Rattle.binlog_payload_filters.specs.PartConcerns.{TakesPart}
use Rattle.binlog_payload_filters.specs.Payloads.{TakesFirst, TakesOne, TakesOr, TakesContent}
use Rattle.binlog_payload_filters.specs.declared.concerned.Concerned.{Concerned}

-- What the visitor makes of an item, and of a part.
abbrev pub StaysSame : Concerned → TableMaps → ℕ → Result EventView Error → Concerned → Type 0
StaysSame old maps index item new = new ≡ old

abbrev pub NotesFirst : Concerned → TableMaps → ℕ → ℕ → Part → Concerned → Type 0
NotesFirst old maps index number part new = TakesFirst old.is_taken old.tables.now maps part new.is_taken × (new.tables ≡ old.tables)

still : (was : Bool) (tables : TableFilter) (maps : TableMaps) (part : Part) (now : Bool) → was ≡ true → TakesFirst was tables maps part now → now ≡ true
still true tables maps part now is takes = takes
still false tables maps part now is takes = absurd cc

-- Behind a part that is taken.
stays_taken : (maps : TableMaps) (index number : ℕ) (parts : List Part) (old new : Concerned) → VisitsParts NotesFirst maps index number parts old new → old.is_taken ≡ true → new.is_taken ≡ true
stays_taken maps index number [] old new is was = ap (λ (c : Concerned). c.is_taken) is ∙ was
stays_taken maps index number (part ∷ parts) old new visited was =
    stays_taken (maps_behind_part maps part) index (number + 1) parts visited.0 new visited.2 (still old.is_taken old.tables.now (maps_behind_part maps part) part visited.0.is_taken was visited.1.0)

first_by : (was : Bool) (tables : TableFilter) (maps : TableMaps) (part : Part) (now : Bool) → was ≡ false → TakesFirst was tables maps part now → TakesPart tables maps part now
first_by true tables maps part now is takes = absurd cc
first_by false tables maps part now is takes = takes

behind_first : (tables : TableFilter) (maps : TableMaps) (index number : ℕ) (parts : List Part) (mid new : Concerned) (b : Bool) → mid.is_taken ≡ b → mid.tables.now ≡ tables → VisitsParts NotesFirst maps index number parts mid new
    → (mid.is_taken ≡ false → TakesOne mid.tables.now maps parts new.is_taken) → TakesOr b (λ others. TakesOne tables maps parts others) new.is_taken
behind_first tables maps index number parts mid new true is same visited rest = stays_taken maps index number parts mid new visited is
behind_first tables maps index number parts mid new false is same visited rest = subst (λ (t : TableFilter). TakesOne t maps parts new.is_taken) same (rest is)

one_taken : (maps : TableMaps) (index number : ℕ) (parts : List Part) (old new : Concerned) → VisitsParts NotesFirst maps index number parts old new → old.is_taken ≡ false → TakesOne old.tables.now maps parts new.is_taken
one_taken maps index number [] old new is was = ap (λ (c : Concerned). c.is_taken) is ∙ was
one_taken maps index number (part ∷ parts) old new visited was =
    let mid : Concerned = visited.0 in
    let behind = maps_behind_part maps part in (
      mid.is_taken,
      first_by old.is_taken old.tables.now behind part mid.is_taken was visited.1.0,
      behind_first old.tables.now behind index (number + 1) parts mid new mid.is_taken refl (ap (λ (b : Bor TableFilter). b.now) visited.1.1) visited.2
          (λ is. one_taken behind index (number + 1) parts mid new visited.2 is),
    )

pub content_taken : (limit : ℕ) (old : Concerned) (maps : TableMaps) (index : ℕ) (event : EventView) (new : Concerned) → old.is_taken ≡ false → VisitsSpliced StaysSame NotesFirst limit old maps index (Ok event) new
    → TakesContent limit old.tables.now event new.is_taken
content_taken limit old maps index event new was spliced =
    let parts = spliced.inside.parts in
    let taken = one_taken no_table_maps index 0 parts spliced.mid new spliced.inside.visited (ap (λ (c : Concerned). c.is_taken) spliced.own ∙ was) in
    (parts, spliced.inside.all, subst (λ (c : Concerned). TakesOne c.tables.now no_table_maps parts new.is_taken) spliced.own taken)

-- Only want of memory ends the visits.
abbrev pub NeverOwn : Concerned → TableMaps → ℕ → Result EventView Error → Error → Concerned → Type 0
NeverOwn old maps index item error new = ⊥

abbrev pub LacksMemory : Concerned → TableMaps → ℕ → ℕ → Part → Error → Concerned → Type 0
LacksMemory old maps index number part error new = error ≡ Memory

stopped : (limit : ℕ) (item : Result EventView Error) (index : ℕ) (old : Concerned) (error : Error) (new : Concerned)
    → StopsInside NotesFirst LacksMemory (AreParts limit item) (IsCompressed item) index old error new → error ≡ Memory
stopped limit item index old error new (inl part) = part.refused
stopped limit item index old error new (inr lacks) = lacks.memory

pub memory_alone : (limit : ℕ) (old : Concerned) (maps : TableMaps) (index : ℕ) (item : Result EventView Error) (error : Error) (new : Concerned)
    → RefusesSpliced StaysSame NotesFirst NeverOwn LacksMemory limit old maps index item error new → error ≡ Memory
memory_alone limit old maps index item error new (inl own) = absurd own
memory_alone limit old maps index item error new (inr inside) = stopped limit item index inside.mid error new inside.inside

-- ---- one part

pub first_stays : (was : Bool) (tables : TableFilter) (maps : TableMaps) (part : Part) → was ≡ true → TakesFirst was tables maps part was
first_stays true tables maps part is = refl
first_stays false tables maps part is = absurd cc

pub first_takes : (was : Bool) (tables : TableFilter) (maps : TableMaps) (part : Part) (now : Bool) → was ≡ false → TakesPart tables maps part now → TakesFirst was tables maps part now
first_takes true tables maps part now is takes = absurd cc
first_takes false tables maps part now is takes = takes

pub error_takes : (was : Bool) (tables : TableFilter) (maps : TableMaps) (e : PayloadError) → TakesFirst was tables maps (Err e) true
error_takes true tables maps e = refl
error_takes false tables maps e = refl
