-- The columns that an iterator has left.
use Rattle.std.specs.Prelude.{List, ◌++◌, map}
use Rattle.binlog_columns.specs.Columns.{typed_of}
use Rattle.binlog_columns.specs.Metadata.{Typed}
use Rattle.binlog_columns.specs.Refusals.{columns_in}
use Rattle.binlog_columns.specs.declared.table_columns.TableColumns.{TableColumns}

-- Those that were read before, and those of these types with this metadata.
abbrev pub columns_of : TableColumns → List Typed
columns_of columns = map typed_of columns.known.now ++ columns_in columns.types.now columns.metadata.now
