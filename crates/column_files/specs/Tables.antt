-- The columns of the tables of a file, by the names of schemas and tables.
use Rattle.std.specs.Prelude.{◌≡◌, ℕ, ◌+◌, ◌<◌, ◌&&◌, Bool, List, [], ◌∷◌, ◌++◌, length, map, filter, take, slice_index_or, bytes_eq, Option, None, Some, option_map, if◌then◌else◌}
use Rattle.std.specs.BTreeMap.{get_by}
use Rattle.std.specs.Cmp.Lexicographic.{slice_cmp}
use Rattle.std.specs.Global.{Vec}
use Rattle.std.specs.Option.{option_and_then}
use Rattle.std.specs.Ordering.{nat_cmp, ordering_then}
use Rattle.std.specs.Str.{is_utf8}
use Rattle.std.specs.declared.cmp.Ordering.{Ordering}
use Rattle.character_sets.specs.Names.{set_named}
use Rattle.character_sets.specs.declared.character_set.CharacterSet.{CharacterSet}
use Rattle.column_files.specs.Types.{Declared, type_of, type_in}
use Rattle.column_files.specs.declared.files.ColumnLine.{ColumnLine}
use Rattle.column_files.specs.declared.tables.DeclaredColumn.{DeclaredColumn}
use Rattle.column_files.specs.declared.tables.DeclaredTables.{DeclaredTables}
use Rattle.column_files.specs.declared.tables.DeclaredTablesError.{DeclaredTablesError}
use Rattle.column_files.specs.declared.tables.DeclaredTablesError.TheVariants.{Position, Memory}

-- ---- columns

-- What a line says of a column: its name, its type, and its character set; None where the line has no type or no set that is known.
pub record Described : Type 0 where
  pub name : List ℕ
  pub type : Option Declared
  pub character_set : Option CharacterSet

-- Bytes as a text, if they are one.
abbrev pub text_of : List ℕ → Option (List ℕ)
text_of s = if is_utf8 s then Some s else None

-- The character set with a name.
abbrev pub set_in : List ℕ → Option CharacterSet
set_in s = option_and_then set_named (text_of s)

abbrev pub described_by : ColumnLine → Described
described_by line = record { name = line.name; type = type_in line.column_type; character_set = set_in line.character_set }

-- A column as contracts see it.
abbrev pub described : DeclaredColumn → Described
described column = record { name = column.name.items; type = option_map type_of column.column_type; character_set = column.character_set }

-- ---- tables

-- The line is of the table with these names.
abbrev pub is_of : (schema table : List ℕ) → ColumnLine → Bool
is_of schema table line = bytes_eq line.schema schema && bytes_eq line.table table

-- The lines of a table, in order.
abbrev pub lines_of : (schema table : List ℕ) → List ColumnLine → List ColumnLine
lines_of schema table lines = filter (is_of schema table) lines

-- The position of the line with this index is behind those of the lines of its table before it: 1 is the first.
abbrev pub IsInPlace : List ColumnLine → ℕ → ColumnLine → Type 0
IsInPlace lines index line = line.position ≡ length (lines_of line.schema line.table (take index lines)) + 1

-- So are the positions of this many lines.
abbrev pub AreInPlace : List ColumnLine → ℕ → Type 0
AreInPlace lines count = (index : ℕ) (none : ColumnLine) → index < count → IsInPlace lines index (slice_index_or lines index none)

-- The line with this index is the first whose position isn't the next one of its table.
pub record IsMisplaced (lines : List ColumnLine) (index : ℕ) : Type 0 where
  pub within : index < length lines
  pub before : AreInPlace lines index
  pub misplaced : (none : ColumnLine) → ¬ (IsInPlace lines index (slice_index_or lines index none))

-- ---- as contracts see them

-- The names of a schema and of a table.
abbrev pub TableName : Type 0
TableName = Vec ℕ × Vec ℕ

-- How the names of a table compare to others.
abbrev pub compare_names : (schema table : List ℕ) → TableName → Ordering
compare_names schema table other = ordering_then (slice_cmp nat_cmp schema other.0.items) (slice_cmp nat_cmp table other.1.items)

abbrev pub columns_of : Option (Vec DeclaredColumn) → List Described
columns_of None = []
columns_of (Some columns) = map described columns.items

-- The columns of the table with these names, in order; none if it isn't known.
abbrev pub columns_named : DeclaredTables → (schema table : List ℕ) → List Described
columns_named tables schema table = columns_of (get_by (compare_names schema table) tables.tables)

-- The columns of each table are those of its lines, in order.
abbrev pub AreTables : List ColumnLine → DeclaredTables → Type 0
AreTables lines tables = (schema table : List ℕ) → columns_named tables schema table ≡ map described_by (lines_of schema table lines)

-- The table with this name isn't known any more, and the others are as before.
abbrev pub IsTaken : (old new : DeclaredTables) → TableName → Type 0
IsTaken old new name = (schema table : List ℕ) → get_by (compare_names schema table) new.tables
    ≡ (if bytes_eq name.0.items schema && bytes_eq name.1.items table then None else get_by (compare_names schema table) old.tables)

-- The table of a line has its column behind those that it had, and the other tables are as before.
abbrev pub AddsColumn : (old new : DeclaredTables) → ColumnLine → Type 0
AddsColumn old new line = (schema table : List ℕ) → columns_named new schema table
    ≡ (if is_of schema table line then columns_named old schema table ++ described_by line ∷ [] else columns_named old schema table)

-- Why the tables of lines aren't known.
abbrev pub IsTablesError : List ColumnLine → DeclaredTablesError → Type 0
IsTablesError lines (Position index) = IsMisplaced lines index
IsTablesError lines Memory = Unit {0}
