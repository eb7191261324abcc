-- The rows that undone changes have left behind.
use Rattle.std.specs.Prelude.{◌≡◌, ℕ, ◌+◌, ◌-◌, ◌||◌, ◌&&◌, Bool, true, false, not, nat_lt, List, [], ◌∷◌, map, Option, Some, None, unwrap_or, bytes_eq, if◌then◌else◌}
use Rattle.std.specs.List.{list_any}
use Rattle.indexmap.specs.IndexMap.{get_by}
use Rattle.change_statistics.specs.Facts.{Name}
use Rattle.change_statistics.specs.Names.{name_eq, is_named}
use Rattle.table_changes.specs.Changes.{State, IsWith}
use Rattle.table_changes.specs.Parts.{Lowers, nothing}
use Rattle.binlog_later_changes.specs.KeyedRows.{Keys, code_of}
use Rattle.binlog_later_changes.specs.KnownRows.{RowImages}
use Rattle.binlog_later_changes.specs.RowKeys.{Values, key_code}
use Rattle.binlog_later_changes.specs.declared.row_key.RowKey.{RowKey}
use Rattle.binlog_later_changes.specs.declared.rows_left.RowsLeft.{RowsLeft}

-- ---- counts by keys

-- How often the row with a key was left behind.
abbrev pub Counts : Type 0
Counts = List ℕ → ℕ

abbrev pub is_code : List ℕ → RowKey → Bool
is_code code key = bytes_eq code (code_of key)

abbrev pub count_of : RowsLeft → Counts
count_of rows code = unwrap_or (get_by (is_code code) rows.counts) 0

-- The count of this key is this one then; all others are as before.
abbrev pub SetsCount : List ℕ → ℕ → Counts → Counts → Type 0
SetsCount code count old new = (second : List ℕ) → new second ≡ (if bytes_eq code second then count else old second)

-- A function is applied to the count of the key, if there is one.
abbrev pub Sets : (ℕ → ℕ) → Option (List ℕ) → Counts → Counts → Type 0
Sets f None old new = (second : List ℕ) → new second ≡ old second
Sets f (Some code) old new = SetsCount code (f (old code)) old new

-- The count falls by 1 unless it is 0, and rises by 1.
abbrev pub lowered : ℕ → ℕ
lowered count = count - 1

abbrev pub raised : ℕ → ℕ
raised count = count + 1

-- The count of the row that is removed falls, and that of the row that is added rises.
abbrev pub SetsKeys : Keys → Counts → Counts → Type 0
SetsKeys keys old new = (mid : Counts) × Sets lowered keys.0 old mid × Sets raised keys.1 mid new

abbrev pub SetsAll : List Keys → Counts → Counts → Type 0
SetsAll [] old new = (second : List ℕ) → new second ≡ old second
SetsAll (keys ∷ others) old new = (mid : Counts) × SetsKeys keys old mid × SetsAll others mid new

-- The row that is removed was left behind.
abbrev pub is_left_key : Counts → Option (List ℕ) → Bool
is_left_key counts None = false
is_left_key counts (Some code) = nat_lt 0 (counts code)

abbrev pub removes_key : Counts → Keys → Bool
removes_key counts keys = is_left_key counts keys.0

-- ---- counts of rows

-- What is known of what undone changes have left behind: how often each row was, and of each table of which rows are undone, whether rows of some of
-- these events aren't known.
pub record Left : Type 0 where
  pub counts : State Name Values
  pub tables : Name → Option Bool

-- Nothing is undone.
abbrev pub nothing_left : Left
nothing_left = record { counts = nothing; tables = λ name. None }

abbrev pub state_of : Counts → State Name Values
state_of counts = λ name row. counts (key_code name row)

abbrev pub tables_of : RowsLeft → Name → Option Bool
tables_of rows name = get_by (is_named name) rows.tables

abbrev pub left_of : RowsLeft → Left
left_of rows = record { counts = state_of (count_of rows); tables = tables_of rows }

-- The change of a row that is undone takes the row that it removes from those that are left behind, if it is among them, and adds the row that it adds.
pub record LeavesRow (name : Name) (images : RowImages) (old new : State Name Values) : Type 0 where
  pub lowered : State Name Values
  pub lowers : Lowers name images.0 old lowered
  pub raises : IsWith name images.1 lowered new

-- The changes of rows, one after the other.
abbrev pub LeavesRows : Name → List RowImages → State Name Values → State Name Values → Type 0
LeavesRows name [] old new = new ≡ old
LeavesRows name (images ∷ others) old new = (mid : State Name Values) × LeavesRow name images old mid × LeavesRows name others mid new

-- Rows of the table are undone, of which some aren't known, or weren't before.
abbrev pub NotesTable : Name → (is_unknown : Bool) → (old new : Name → Option Bool) → Type 0
NotesTable name is_unknown old new = (second : Name) → new second ≡ (if name_eq name second then Some (is_unknown || unwrap_or (old name) false) else old second)

-- This is noted of the table.
abbrev pub SetsTable : Name → Bool → (old new : Name → Option Bool) → Type 0
SetsTable name is_unknown old new = (second : Name) → new second ≡ (if name_eq name second then Some is_unknown else old second)

-- Rows of the table are undone, and those of all of its undone events are known.
abbrev pub is_known_table : Option Bool → Bool
is_known_table None = false
is_known_table (Some is_unknown) = not is_unknown

-- Rows of the table with this name are undone. Where they aren't known, the counts stay.
abbrev pub Leaves : Name → Option (List RowImages) → Left → Left → Type 0
Leaves name (Some images) old new = LeavesRows name images old.counts new.counts × NotesTable name false old.tables new.tables
Leaves name None old new = (new.counts ≡ old.counts) × NotesTable name true old.tables new.tables

-- The same by keys.
abbrev pub LeavesKeys : Name → Option (List Keys) → RowsLeft → RowsLeft → Type 0
LeavesKeys name (Some keys) old new = SetsAll keys (count_of old) (count_of new) × NotesTable name false (tables_of old) (tables_of new)
LeavesKeys name None old new = ((second : List ℕ) → count_of new second ≡ count_of old second) × NotesTable name true (tables_of old) (tables_of new)

-- The row, if there is one, was left behind.
abbrev pub is_left : State Name Values → Name → Option Values → Bool
is_left counts name None = false
is_left counts name (Some row) = nat_lt 0 (counts name row)

abbrev pub removes_left : State Name Values → Name → RowImages → Bool
removes_left counts name images = is_left counts name images.0

-- The rows are known, and no change of them removes a row that was left behind.
abbrev pub is_apart : State Name Values → Name → Option (List RowImages) → Bool
is_apart counts name None = false
is_apart counts name (Some images) = not (list_any (removes_left counts name) images)

-- The same by keys.
abbrev pub is_apart_by : Counts → Option (List Keys) → Bool
is_apart_by counts None = false
is_apart_by counts (Some keys) = not (list_any (removes_key counts) keys)
