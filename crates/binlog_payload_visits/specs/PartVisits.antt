-- What a visitor makes of the parts of an item.
use Rattle.std.specs.Prelude.{◌≡◌, ◌⊎◌, ℕ, ◌+◌, List, [], ◌∷◌, ◌++◌, length, Result, Ok, Err}
use Rattle.binlog_wire.specs.declared.error.Error.{Error}
use Rattle.binlog_wire.specs.declared.error.Error.TheVariants.{Memory}
use Rattle.binlog_events.specs.Events.{EventView}
use Rattle.binlog_file.specs.TableMapsInForce.{TableMaps, no_table_maps}
use Rattle.binlog_visits.specs.Visits.{VisitRelation, RefusalRelation}
use Rattle.binlog_payload_visits.specs.Parts.{Part, AreParts, IsCompressed, maps_behind_part, maps_after_parts}

-- `visits_part old maps index number part new` says what a visit of the part with this number of the item with this index makes of a
-- visitor, where `maps` are the table maps in force behind the part.
abbrev pub PartVisitRelation : Type 0 → Type 1
PartVisitRelation T = T → TableMaps → ℕ → ℕ → Part → T → Type 0

-- `refuses_part old maps index number part error new` says when that visit is refused with an error, and what it leaves.
abbrev pub PartRefusalRelation : Type 0 → Type 1
PartRefusalRelation T = T → TableMaps → ℕ → ℕ → Part → Error → T → Type 0

module _ {T : Type 0} (visits_part : PartVisitRelation T) where
  -- These parts of the item with this index were visited one after another, where `number` is that of the first, and `maps` are the
  -- table maps in force before it.
  abbrev pub VisitsParts : TableMaps → ℕ → ℕ → List Part → T → T → Type 0
  VisitsParts maps index number [] old new = new ≡ old
  VisitsParts maps index number (part ∷ parts) old new =
      (mid : T) × visits_part old (maps_behind_part maps part) index number part mid × VisitsParts (maps_behind_part maps part) index (number + 1) parts mid new

  -- All parts were visited, the first as number 0 and with no table maps in force before it. `are parts` says that the item's parts
  -- are these.
  pub record VisitsAll (are : List Part → Type 0) (index : ℕ) (old new : T) : Type 0 where
    pub parts : List Part
    pub all : are parts
    pub visited : VisitsParts no_table_maps index 0 parts old new

  -- An allocation failed behind the visits of the first parts. `grows` says that one may.
  pub record LacksMemory (are : List Part → Type 0) (grows : Type 0) (index : ℕ) (old : T) (error : Error) (new : T) : Type 0 where
    pub before : List Part
    pub after : List Part
    pub all : are (before ++ after)
    pub visited : VisitsParts no_table_maps index 0 before old new
    pub memory : error ≡ Memory
    pub may : grows

module _ {T : Type 0} (visits_part : PartVisitRelation T) (refuses_part : PartRefusalRelation T) where
  -- The visitor refused a part, behind the visits of those before it.
  pub record RefusesPart (are : List Part → Type 0) (index : ℕ) (old : T) (error : Error) (new : T) : Type 0 where
    pub before : List Part
    pub part : Part
    pub after : List Part
    pub all : are (before ++ part ∷ after)
    pub mid : T
    pub visited : VisitsParts visits_part no_table_maps index 0 before old mid
    pub refused : refuses_part mid (maps_after_parts no_table_maps (before ++ part ∷ [])) index (length before) part error new

  -- The visits ended before all parts were visited.
  abbrev pub StopsInside : (are : List Part → Type 0) (grows : Type 0) (index : ℕ) (old : T) (error : Error) (new : T) → Type 0
  StopsInside are grows index old error new = RefusesPart are index old error new ⊎ LacksMemory visits_part are grows index old error new

  -- The results of visiting all parts.
  abbrev pub VisitsPartsOf : (are : List Part → Type 0) (grows : Type 0) → ℕ → T → Result (Unit {0}) Error → T → Type 0
  VisitsPartsOf are grows index old (Ok done) new = VisitsAll visits_part are index old new
  VisitsPartsOf are grows index old (Err error) new = StopsInside are grows index old error new

-- ---- an item with its parts

module _ {T : Type 0} (visits : VisitRelation T) (visits_part : PartVisitRelation T) where
  -- The item was visited, and then all its parts.
  pub record VisitsSpliced (limit : ℕ) (old : T) (maps : TableMaps) (index : ℕ) (item : Result EventView Error) (new : T) : Type 0 where
    pub mid : T
    pub own : visits old maps index item mid
    pub inside : VisitsAll visits_part (AreParts limit item) index mid new

module _ {T : Type 0} (visits : VisitRelation T) (visits_part : PartVisitRelation T) (refuses : RefusalRelation T) (refuses_part : PartRefusalRelation T) where
  -- The item was visited, and its parts up to one that wasn't.
  pub record RefusesInside (limit : ℕ) (old : T) (maps : TableMaps) (index : ℕ) (item : Result EventView Error) (error : Error) (new : T) : Type 0 where
    pub mid : T
    pub own : visits old maps index item mid
    pub inside : StopsInside visits_part refuses_part (AreParts limit item) (IsCompressed item) index mid error new

  -- The visitor refused the item itself, or the visits ended inside it.
  abbrev pub RefusesSpliced : ℕ → RefusalRelation T
  RefusesSpliced limit old maps index item error new = refuses old maps index item error new ⊎ RefusesInside limit old maps index item error new
