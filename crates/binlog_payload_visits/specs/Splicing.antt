-- The items of a log with the contents of compressed transactions spliced in.
use Rattle.std.specs.Prelude.{◌≡◌, ℕ, ◌+◌, List, [], ◌∷◌, ◌++◌, Result}
use Rattle.binlog_wire.specs.declared.error.Error.{Error}
use Rattle.binlog_events.specs.Events.{EventView}
use Rattle.binlog_file.specs.TableMapsInForce.{TableMaps, no_table_maps}
use Rattle.binlog_visits.specs.TableMaps.{maps_behind}
use Rattle.binlog_visits.specs.Visits.{VisitRelation}
use Rattle.binlog_payload_visits.specs.Parts.{Part, AreParts, maps_behind_part}
use Rattle.binlog_payload_visits.specs.PartVisits.{PartVisitRelation}

-- What a visitor is shown, with its place: an item with its index, or a part with the index of its item and its number.
pub data Shown : Type 0 where
  outside : ℕ → Result EventView Error → Shown
  inside : ℕ → ℕ → Part → Shown

-- The parts of the item with this index, where `number` is that of the first.
abbrev pub numbered : ℕ → ℕ → List Part → List Shown
numbered index number [] = []
numbered index number (part ∷ parts) = inside index number part ∷ numbered index (number + 1) parts

-- These are the items, where `index` is that of the first, each with its parts behind it, numbered from 0. Contents of more than
-- `limit` bytes are refused.
abbrev pub AreSpliced : ℕ → ℕ → List (Result EventView Error) → List Shown → Type 0
AreSpliced limit index [] shown = shown ≡ []
AreSpliced limit index (item ∷ items) shown =
    (parts : List Part) × AreParts limit item parts × (others : List Shown) × AreSpliced limit (index + 1) items others
    × (shown ≡ outside index item ∷ (numbered index 0 parts ++ others))

module _ {T : Type 0} (visits : VisitRelation T) (visits_part : PartVisitRelation T) where
  -- These were visited one after another. `maps` are the table maps in force outside, and `part_maps` those inside the payload of the
  -- item before: none at the front of each payload.
  abbrev pub VisitsShown : TableMaps → TableMaps → List Shown → T → T → Type 0
  VisitsShown maps part_maps [] old new = new ≡ old
  VisitsShown maps part_maps (outside index item ∷ others) old new =
      (mid : T) × visits old (maps_behind maps item) index item mid × VisitsShown (maps_behind maps item) no_table_maps others mid new
  VisitsShown maps part_maps (inside index number part ∷ others) old new =
      (mid : T) × visits_part old (maps_behind_part part_maps part) index number part mid × VisitsShown maps (maps_behind_part part_maps part) others mid new

  -- The visitor was shown the items with their parts spliced in, and nothing else.
  pub record VisitsAllSpliced (limit : ℕ) (maps : TableMaps) (index : ℕ) (items : List (Result EventView Error)) (old new : T) : Type 0 where
    pub shown : List Shown
    pub are : AreSpliced limit index items shown
    pub visited : VisitsShown maps no_table_maps shown old new
