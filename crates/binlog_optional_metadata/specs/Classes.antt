-- The columns that a field of the optional metadata is about, by their real types.
-- Source: MySQL's documentation of its source code, `mysql::binlog::event::Table_map_event`.
use Rattle.std.specs.Prelude.{ℕ, ◌+◌, Bool, true, false, List, [], ◌∷◌, if◌then◌else◌}
use Rattle.binlog_columns.specs.Metadata.{Typed}
use Rattle.binlog_columns.specs.RealTypes.{real_type}
use Rattle.binlog_columns.specs.declared.column_type.ColumnType.{ColumnType}
use Rattle.binlog_columns.specs.declared.column_type.ColumnType.TheVariants.{MYSQL_TYPE_BLOB, MYSQL_TYPE_BLOB_COMPRESSED, MYSQL_TYPE_DOUBLE, MYSQL_TYPE_ENUM, MYSQL_TYPE_FLOAT, MYSQL_TYPE_GEOMETRY, MYSQL_TYPE_INT24, MYSQL_TYPE_LONG, MYSQL_TYPE_LONGLONG, MYSQL_TYPE_LONG_BLOB, MYSQL_TYPE_MEDIUM_BLOB, MYSQL_TYPE_NEWDECIMAL, MYSQL_TYPE_SET, MYSQL_TYPE_SHORT, MYSQL_TYPE_STRING, MYSQL_TYPE_TINY, MYSQL_TYPE_TINY_BLOB, MYSQL_TYPE_VARCHAR, MYSQL_TYPE_VARCHAR_COMPRESSED, MYSQL_TYPE_VAR_STRING, MYSQL_TYPE_VECTOR, MYSQL_TYPE_YEAR}
use Rattle.binlog_optional_metadata.specs.declared.column_class.ColumnClass.{ColumnClass}
use Rattle.binlog_optional_metadata.specs.declared.column_class.ColumnClass.TheVariants.{Numeric, Character, MariaCharacter, Enum, Set, EnumOrSet, Geometry, Vector}

-- Numbers and years.
abbrev pub is_numeric : ColumnType → Bool
is_numeric MYSQL_TYPE_TINY = true
is_numeric MYSQL_TYPE_SHORT = true
is_numeric MYSQL_TYPE_LONG = true
is_numeric MYSQL_TYPE_FLOAT = true
is_numeric MYSQL_TYPE_DOUBLE = true
is_numeric MYSQL_TYPE_LONGLONG = true
is_numeric MYSQL_TYPE_INT24 = true
is_numeric MYSQL_TYPE_YEAR = true
is_numeric MYSQL_TYPE_NEWDECIMAL = true
is_numeric _ = false

-- Strings of characters or bytes, which have a collation in each server's logs.
abbrev pub is_string : ColumnType → Bool
is_string MYSQL_TYPE_VARCHAR = true
is_string MYSQL_TYPE_BLOB_COMPRESSED = true
is_string MYSQL_TYPE_VARCHAR_COMPRESSED = true
is_string MYSQL_TYPE_TINY_BLOB = true
is_string MYSQL_TYPE_MEDIUM_BLOB = true
is_string MYSQL_TYPE_LONG_BLOB = true
is_string MYSQL_TYPE_BLOB = true
is_string MYSQL_TYPE_VAR_STRING = true
is_string MYSQL_TYPE_STRING = true
is_string _ = false

-- Columns with a collation in MySQL's logs: strings and vectors.
abbrev pub is_character : ColumnType → Bool
is_character MYSQL_TYPE_VECTOR = true
is_character other = is_string other

-- Columns with a collation in MariaDB's logs: strings and geometries.
abbrev pub is_maria_character : ColumnType → Bool
is_maria_character MYSQL_TYPE_GEOMETRY = true
is_maria_character other = is_string other

abbrev pub is_enum : ColumnType → Bool
is_enum MYSQL_TYPE_ENUM = true
is_enum _ = false

abbrev pub is_set : ColumnType → Bool
is_set MYSQL_TYPE_SET = true
is_set _ = false

abbrev pub is_enum_or_set : ColumnType → Bool
is_enum_or_set MYSQL_TYPE_ENUM = true
is_enum_or_set MYSQL_TYPE_SET = true
is_enum_or_set _ = false

abbrev pub is_geometry : ColumnType → Bool
is_geometry MYSQL_TYPE_GEOMETRY = true
is_geometry _ = false

abbrev pub is_vector : ColumnType → Bool
is_vector MYSQL_TYPE_VECTOR = true
is_vector _ = false

-- Columns of this real type are in the class.
abbrev pub is_in_class : ColumnClass → ColumnType → Bool
is_in_class Numeric column_type = is_numeric column_type
is_in_class Character column_type = is_character column_type
is_in_class MariaCharacter column_type = is_maria_character column_type
is_in_class Enum column_type = is_enum column_type
is_in_class Set column_type = is_set column_type
is_in_class EnumOrSet column_type = is_enum_or_set column_type
is_in_class Geometry column_type = is_geometry column_type
is_in_class Vector column_type = is_vector column_type

-- The class of the columns with a collation, by the server that wrote the log.
abbrev pub character_class : Bool → ColumnClass
character_class is_maria_log = if is_maria_log then MariaCharacter else Character

-- The number of these columns that are in the class.
abbrev pub class_count : ColumnClass → List Typed → ℕ
class_count class [] = 0
class_count class (column ∷ columns) = (if is_in_class class (real_type column) then 1 else 0) + class_count class columns
