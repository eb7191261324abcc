-- Some of the changes of a log: those of some tables, and those that are undone while others stay.
use Rattle.std.specs.Prelude.{◌≡◌, ◌⊎◌, Bool, List, [], ◌∷◌, map, Option, None, Some, ⊤, if◌then◌else◌}
use Rattle.std.specs.List.{filter, filter_map}
use Rattle.table_changes.specs.Changes.{State, Change, table_of, removed, added, IsWith}

-- Any two of these are the same or aren't.
abbrev pub EqualOrNot : Type 0 → Type 0
EqualOrNot A = (a b : A) → (a ≡ b) ⊎ (¬ (a ≡ b))

-- ---- some tables

module _ {Table Row : Type 0} where
  -- The changes of the tables that are taken.
  abbrev pub changes_of : (Table → Bool) → List (Change Table Row) → List (Change Table Row)
  changes_of takes changes = filter (λ change. takes (table_of change)) changes

  -- The tables that are taken as in the first state, and the other tables as in the second.
  abbrev pub taken_from : (Table → Bool) → State Table Row → State Table Row → State Table Row
  taken_from takes first second = λ table. if takes table then first table else second table

-- ---- changes that are undone, and changes that stay

-- A change of a log that is to be undone, or that is to stay.
pub data Logged (Table Row : Type 0) : Type 0 where
  undone : Change Table Row → Logged Table Row
  kept : Change Table Row → Logged Table Row

module _ {Table Row : Type 0} where
  abbrev pub change_of : Logged Table Row → Change Table Row
  change_of (undone change) = change
  change_of (kept change) = change

  abbrev pub if_undone : Logged Table Row → Option (Change Table Row)
  if_undone (undone change) = Some change
  if_undone (kept change) = None

  abbrev pub if_kept : Logged Table Row → Option (Change Table Row)
  if_kept (undone change) = None
  if_kept (kept change) = Some change

  -- All changes of the log; those that are to be undone; and those that are to stay; each in the order of the log.
  abbrev pub all_changes : List (Logged Table Row) → List (Change Table Row)
  all_changes log = map change_of log

  abbrev pub undone_changes : List (Logged Table Row) → List (Change Table Row)
  undone_changes log = filter_map if_undone log

  abbrev pub kept_changes : List (Logged Table Row) → List (Change Table Row)
  kept_changes log = filter_map if_kept log

  -- No row is in any table.
  abbrev pub nothing : State Table Row
  nothing = λ table row. 0

  -- The count of this row falls by 1 unless it is 0; all other counts stay.
  abbrev pub Lowers : Table → Option Row → (old new : State Table Row) → Type 0
  Lowers table None old new = new ≡ old
  Lowers table (Some row) old new = IsWith table (Some row) new old ⊎ ((old table row ≡ 0) × (new ≡ old))

  -- What a change does to the counts of the rows that the undone changes have left behind: it takes the row that it removes from
  -- them, if it is among them, and adds the row that it adds.
  pub record LeavesBehind (change : Change Table Row) (old new : State Table Row) : Type 0 where
    pub lowered : State Table Row
    pub lowers : Lowers (table_of change) (removed change) old lowered
    pub raises : IsWith (table_of change) (added change) lowered new

  -- The row, if there is one, has the count 0.
  abbrev pub IsNotLeft : State Table Row → Table → Option Row → Type 0
  IsNotLeft counts table None = ⊤
  IsNotLeft counts table (Some row) = counts table row ≡ 0

  -- With these counts at first and in the end, no change that stays removes a row that the undone changes before it have left
  -- behind.
  abbrev pub KeepsApart : List (Logged Table Row) → (old new : State Table Row) → Type 0
  KeepsApart [] old new = new ≡ old
  KeepsApart (undone change ∷ log) old new =
      (between : State Table Row) × LeavesBehind change old between × KeepsApart log between new
  KeepsApart (kept change ∷ log) old new = IsNotLeft old (table_of change) (removed change) × KeepsApart log old new
