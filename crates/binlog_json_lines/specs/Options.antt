-- What lines of row events show.
use Rattle.std.specs.Prelude.{Bool, false, List, []}
use Rattle.column_files.specs.declared.tables.DeclaredTables.{DeclaredTables}
use Rattle.binlog_json_lines.specs.declared.options.LineOptions.{LineOptions}

-- Whether all lines keep the stored bytes of rows, and the tables of files of columns.
pub record RowOptions : Type 0 where
  pub keeps_stored : Bool
  pub files : List DeclaredTables

abbrev pub options_of : LineOptions → RowOptions
options_of options = record { keeps_stored = options.keeps_stored; files = options.files.items }

-- No stored bytes where all rows are read, and no files.
abbrev pub plain : RowOptions
plain = record { keeps_stored = false; files = [] }
