-- How many columns there are of each class.
use Rattle.std.specs.Prelude.{Bool, List, length}
use Rattle.binlog_columns.specs.Metadata.{Typed}
use Rattle.binlog_optional_metadata.specs.Classes.{class_count, character_class}
use Rattle.binlog_optional_metadata.specs.declared.class_counts.ClassCounts.{ClassCounts}
use Rattle.binlog_optional_metadata.specs.declared.column_class.ColumnClass.TheVariants.{Numeric, Enum, Set, EnumOrSet, Geometry, Vector}

-- How many of these columns there are of each class.
abbrev pub counts_of : Bool → List Typed → ClassCounts
counts_of is_maria_log columns = record {
  columns = length columns;
  numeric = class_count Numeric columns;
  character = class_count (character_class is_maria_log) columns;
  enums = class_count Enum columns;
  sets = class_count Set columns;
  listed = class_count EnumOrSet columns;
  geometries = class_count Geometry columns;
  vectors = class_count Vector columns;
}
