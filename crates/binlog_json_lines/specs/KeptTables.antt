-- Which table map a kept table is of.
use Rattle.std.specs.Prelude.{◌≡◌, Bool, None, Some, Result, Ok, Err}
use Rattle.binlog_columns.specs.Refusals.{refusal}
use Rattle.binlog_columns.specs.declared.column_error.ColumnError.{ColumnError}
use Rattle.binlog_rows.specs.declared.table_map_event.TableMapEvent.{TableMapEvent}
use Rattle.binlog_json_lines.specs.declared.kept_tables.KeptTable.{KeptTable}

-- The bytes are those of this table map, of a log that MariaDB wrote or not.
pub record IsOf (table : KeptTable) (is_maria_log : Bool) (map : TableMapEvent) : Type 0 where
  pub server : table.is_maria_log ≡ is_maria_log
  pub types : table.types.items ≡ map.columns.types
  pub metadata : table.metadata.items ≡ map.columns.metadata
  pub optional : table.optional_metadata.items ≡ map.columns.optional_metadata

-- The table of this table map, or why its columns are refused.
abbrev pub GivesTable : Result KeptTable ColumnError → Bool → TableMapEvent → Type 0
GivesTable (Ok table) is_maria_log map = IsOf table is_maria_log map
GivesTable (Err error) is_maria_log map = refusal 0 map.columns.types map.columns.metadata ≡ Some error
