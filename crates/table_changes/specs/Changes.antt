-- Changes of the rows of tables: which state of the tables they lead to, and the changes that undo them.
use Rattle.std.specs.Prelude.{◌≡◌, ℕ, ◌+◌, ◌<◌, List, [], ◌∷◌, map, reverse, Option, None, Some, ⊤}

-- How often each row is in each table. Tables are multisets of rows: equal rows count as often as they are there.
abbrev pub State : Type 0 → Type 0 → Type 0
State Table Row = Table → Row → ℕ

-- A row is inserted into a table, is deleted from it, or is updated there, from an old row to a new one.
pub data Change (Table Row : Type 0) : Type 0 where
  insert : Table → Row → Change Table Row
  delete : Table → Row → Change Table Row
  update : Table → (old new : Row) → Change Table Row

module _ {Table Row : Type 0} where
  abbrev pub table_of : Change Table Row → Table
  table_of (insert table new) = table
  table_of (delete table old) = table
  table_of (update table old new) = table

  -- The row that a change removes from its table, if it removes one.
  abbrev pub removed : Change Table Row → Option Row
  removed (insert table new) = None
  removed (delete table old) = Some old
  removed (update table old new) = Some old

  -- The row that a change adds to its table, if it adds one.
  abbrev pub added : Change Table Row → Option Row
  added (insert table new) = Some new
  added (delete table old) = None
  added (update table old new) = Some new

  -- One state has this row once more than the other; all other rows, and all rows of other tables, are there as often.
  pub record IsOneMore (table : Table) (row : Row) (fewer more : State Table Row) : Type 0 where
    pub here : more table row ≡ fewer table row + 1
    pub elsewhere : (other : Table) (another : Row) → ¬ ((other ≡ table) × (another ≡ row))
        → more other another ≡ fewer other another

  -- The same, where there may be no row: then the states are the same.
  abbrev pub IsWith : Table → Option Row → (fewer more : State Table Row) → Type 0
  IsWith table None fewer more = more ≡ fewer
  IsWith table (Some row) fewer more = IsOneMore table row fewer more

  -- The row is there, or there is no row that has to be there.
  abbrev pub IsThere : State Table Row → Table → Option Row → Type 0
  IsThere state table None = ⊤
  IsThere state table (Some row) = 0 < state table row

  -- The change leads from one state to the other: there are other rows, with which the row that it removes makes the old state, and
  -- the row that it adds makes the new one. A change whose removed row isn't there leads to no state.
  pub record Applies (change : Change Table Row) (old new : State Table Row) : Type 0 where
    pub others : State Table Row
    pub was : IsWith (table_of change) (removed change) others old
    pub is : IsWith (table_of change) (added change) others new

  -- These changes, one after another, lead from one state to the other.
  abbrev pub AppliesAll : List (Change Table Row) → (old new : State Table Row) → Type 0
  AppliesAll [] old new = new ≡ old
  AppliesAll (change ∷ changes) old new = (between : State Table Row) × Applies change old between × AppliesAll changes between new

  -- The change that undoes this one: an insertion is undone by a deletion, and an update by the update back.
  abbrev pub inverse_of : Change Table Row → Change Table Row
  inverse_of (insert table new) = delete table new
  inverse_of (delete table old) = insert table old
  inverse_of (update table old new) = update table new old

  -- The changes that undo these: the last one is undone first.
  abbrev pub inverse : List (Change Table Row) → List (Change Table Row)
  inverse changes = reverse (map inverse_of changes)
