-- The real types of columns.
use Rattle.std.specs.Prelude.{ℕ, ◌==◌, if◌then◌else◌}
use Rattle.binlog_columns.specs.Metadata.{Typed, real_number}
use Rattle.binlog_columns.specs.declared.column_type.ColumnType.{ColumnType}
use Rattle.binlog_columns.specs.declared.column_type.ColumnType.TheVariants.{MYSQL_TYPE_STRING, MYSQL_TYPE_ENUM, MYSQL_TYPE_SET}

-- The real type that the two bytes of a STRING's, an ENUM's or a SET's metadata state.
abbrev pub real_as : ℕ → ColumnType
real_as metadata = if real_number metadata == 254 then MYSQL_TYPE_STRING else if real_number metadata == 247 then MYSQL_TYPE_ENUM else MYSQL_TYPE_SET

-- The real type of a column of this type and metadata: the metadata of a STRING, an ENUM or a SET states it.
abbrev pub real_type_as : ColumnType → ℕ → ColumnType
real_type_as MYSQL_TYPE_STRING metadata = real_as metadata
real_type_as MYSQL_TYPE_ENUM metadata = real_as metadata
real_type_as MYSQL_TYPE_SET metadata = real_as metadata
real_type_as column_type metadata = column_type

-- The real type of a column.
abbrev pub real_type : Typed → ColumnType
real_type column = real_type_as column.0 column.1
