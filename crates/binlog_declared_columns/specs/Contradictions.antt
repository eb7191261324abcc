-- The tables that contradict files of columns.
use Rattle.std.specs.Prelude.{◌≡◌, ℕ, ◌&&◌, List, bytes_eq, Option, Some, unwrap_or, if◌then◌else◌}
use Rattle.std.specs.BTreeMap.{get_by}
use Rattle.column_files.specs.Tables.{compare_names}
use Rattle.binlog_declared_columns.specs.declared.contradictions.Contradictions.{Contradictions}

-- The column of the table with these names that contradicts its file.
abbrev pub column_of : Contradictions → (schema table : List ℕ) → Option ℕ
column_of tables schema table = get_by (compare_names schema table) tables.columns

-- The table with these names has the column that it had, or else this one; the other tables are as before.
abbrev pub NotesColumn : (old new : Contradictions) (schema table : List ℕ) → ℕ → Type 0
NotesColumn old new schema table column = (s t : List ℕ) → column_of new s t
    ≡ (if bytes_eq schema s && bytes_eq table t then Some (unwrap_or (column_of old s t) column) else column_of old s t)
