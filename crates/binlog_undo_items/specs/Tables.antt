-- The tables that a text names.
use Rattle.std.specs.Prelude.{◌≡◌, ◌≢◌, ℕ, List, [], ◌∷◌, ◌++◌, map, Option, Some, None}
use Rattle.std.specs.List.{AllByRecursion}
use Rattle.binlog_filters.specs.declared.tables.TableFilter.{TableFilter}
use Rattle.binlog_filters.specs.declared.tables.TablePattern.{TablePattern}
use Rattle.binlog_undo_items.specs.declared.failure.UndoFailure.{UndoFailure}
use Rattle.binlog_undo_items.specs.declared.failure.UndoFailure.TheVariants as failures

abbrev pub HasNoZero : List ℕ → Type 0
HasNoZero bytes = AllByRecursion (λ byte. byte ≢ 0) bytes

-- The text is a name, a zero and the rest.
pub record IsNameAt (text name rest : List ℕ) : Type 0 where
  pub named : HasNoZero name
  pub is : text ≡ name ++ 0 ∷ rest

-- The text is the name of a database and that of a table, each with a zero behind it, and the rest.
pub record IsTableAt (text database table rest : List ℕ) : Type 0 where
  pub behind : List ℕ
  pub first : IsNameAt text database behind
  pub second : IsNameAt behind table rest

-- The text is the names of these tables, in order, and the rest.
abbrev pub AreTablesAt : (text : List ℕ) → List (List ℕ × List ℕ) → (rest : List ℕ) → Type 0
AreTablesAt text [] rest = text ≡ rest
AreTablesAt text (table ∷ tables) rest = (behind : List ℕ) × IsTableAt text table.0 table.1 behind × AreTablesAt behind tables rest

-- The names of a pattern.
abbrev pub names_in : TablePattern → List ℕ × List ℕ
names_in pattern = (pattern.database.bytes.items, pattern.table.bytes.items)

-- The patterns are those that the text names, in order.
abbrev pub AreTables : List ℕ → List TablePattern → Type 0
AreTables text patterns = AreTablesAt text (map names_in patterns) []

-- There is a filter of tables if the text names some: it takes those alone.
abbrev pub StatesTables : List ℕ → Option TableFilter → Type 0
StatesTables text None = text ≡ []
StatesTables text (Some filter) = (text ≢ []) × (filter.databases.items ≡ []) × AreTables text filter.tables.items

-- No two names with a zero behind each are at the front of the text.
abbrev pub IsNoTable : List ℕ → Type 0
IsNoTable text = (database table rest : List ℕ) → IsTableAt text database table rest → ⊥

-- Behind the names of some tables is a text that names no table.
pub record HasNoTables (text : List ℕ) : Type 0 where
  pub tables : List (List ℕ × List ℕ)
  pub rest : List ℕ
  pub are : AreTablesAt text tables rest
  pub some : rest ≢ []
  pub none : IsNoTable rest

-- That is why there is no filter; or memory was refused.
abbrev pub IsNoTables : List ℕ → UndoFailure → Type 0
IsNoTables text failures.Options = HasNoTables text
IsNoTables text failures.Memory = Unit {0}
IsNoTables text failure = ⊥
