-- The text of the rows of tables alone.
use Rattle.std.specs.Prelude.{ℕ, List, ◌++◌, codes, decimal}
use Rattle.change_statistics.specs.declared.table_counts.TableCounts.{TableCounts}
use Rattle.change_statistics.specs.declared.table_name.TableName.{TableName}
use Rattle.change_statistics.specs.NameTexts.{names_text}

-- The row events of a table, and the rows that they insert, update and delete.
abbrev pub rows_text : TableCounts → List ℕ
rows_text counts =
    decimal counts.events ++ codes " events " ++ decimal counts.inserted ++ codes " inserted " ++ decimal counts.updated ++ codes " updated " ++ decimal counts.deleted ++ codes " deleted\n"

-- The line of a table: its name and its rows.
abbrev pub rows_line : TableName × TableCounts → List ℕ
rows_line entry = names_text entry.0 ++ rows_text entry.1
