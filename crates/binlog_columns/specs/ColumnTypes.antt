-- The column types and their numbers.
-- Source: MySQL's documentation of its source code, `enum_field_types`; MariaDB's for the compressed types.
use Rattle.std.specs.Prelude.{ℕ, List, [], ◌∷◌, Result}
use Rattle.binlog_consts.specs.Tables.{value_of}
use Rattle.binlog_columns.specs.declared.column_type.ColumnType.{ColumnType}
use Rattle.binlog_columns.specs.declared.column_type.ColumnType.TheVariants.{MYSQL_TYPE_TINY, MYSQL_TYPE_SHORT, MYSQL_TYPE_LONG, MYSQL_TYPE_FLOAT, MYSQL_TYPE_DOUBLE, MYSQL_TYPE_NULL, MYSQL_TYPE_TIMESTAMP, MYSQL_TYPE_LONGLONG, MYSQL_TYPE_INT24, MYSQL_TYPE_DATE, MYSQL_TYPE_TIME, MYSQL_TYPE_DATETIME, MYSQL_TYPE_YEAR, MYSQL_TYPE_NEWDATE, MYSQL_TYPE_VARCHAR, MYSQL_TYPE_BIT, MYSQL_TYPE_TIMESTAMP2, MYSQL_TYPE_DATETIME2, MYSQL_TYPE_TIME2, MYSQL_TYPE_BLOB_COMPRESSED, MYSQL_TYPE_VARCHAR_COMPRESSED, MYSQL_TYPE_VECTOR, MYSQL_TYPE_JSON, MYSQL_TYPE_NEWDECIMAL, MYSQL_TYPE_ENUM, MYSQL_TYPE_SET, MYSQL_TYPE_TINY_BLOB, MYSQL_TYPE_MEDIUM_BLOB, MYSQL_TYPE_LONG_BLOB, MYSQL_TYPE_BLOB, MYSQL_TYPE_VAR_STRING, MYSQL_TYPE_STRING, MYSQL_TYPE_GEOMETRY}
use Rattle.binlog_columns.specs.declared.column_type.UnknownColumnType.{UnknownColumnType}

-- The number of a column type.
abbrev pub column_number : ColumnType → ℕ
column_number MYSQL_TYPE_TINY = 1
column_number MYSQL_TYPE_SHORT = 2
column_number MYSQL_TYPE_LONG = 3
column_number MYSQL_TYPE_FLOAT = 4
column_number MYSQL_TYPE_DOUBLE = 5
column_number MYSQL_TYPE_NULL = 6
column_number MYSQL_TYPE_TIMESTAMP = 7
column_number MYSQL_TYPE_LONGLONG = 8
column_number MYSQL_TYPE_INT24 = 9
column_number MYSQL_TYPE_DATE = 10
column_number MYSQL_TYPE_TIME = 11
column_number MYSQL_TYPE_DATETIME = 12
column_number MYSQL_TYPE_YEAR = 13
column_number MYSQL_TYPE_NEWDATE = 14
column_number MYSQL_TYPE_VARCHAR = 15
column_number MYSQL_TYPE_BIT = 16
column_number MYSQL_TYPE_TIMESTAMP2 = 17
column_number MYSQL_TYPE_DATETIME2 = 18
column_number MYSQL_TYPE_TIME2 = 19
column_number MYSQL_TYPE_BLOB_COMPRESSED = 140
column_number MYSQL_TYPE_VARCHAR_COMPRESSED = 141
column_number MYSQL_TYPE_VECTOR = 242
column_number MYSQL_TYPE_JSON = 245
column_number MYSQL_TYPE_NEWDECIMAL = 246
column_number MYSQL_TYPE_ENUM = 247
column_number MYSQL_TYPE_SET = 248
column_number MYSQL_TYPE_TINY_BLOB = 249
column_number MYSQL_TYPE_MEDIUM_BLOB = 250
column_number MYSQL_TYPE_LONG_BLOB = 251
column_number MYSQL_TYPE_BLOB = 252
column_number MYSQL_TYPE_VAR_STRING = 253
column_number MYSQL_TYPE_STRING = 254
column_number MYSQL_TYPE_GEOMETRY = 255

-- The column types, by their numbers.
abbrev pub column_types : List ColumnType
column_types =
    MYSQL_TYPE_TINY ∷ MYSQL_TYPE_SHORT ∷ MYSQL_TYPE_LONG ∷ MYSQL_TYPE_FLOAT ∷ MYSQL_TYPE_DOUBLE ∷ MYSQL_TYPE_NULL ∷ MYSQL_TYPE_TIMESTAMP ∷ MYSQL_TYPE_LONGLONG ∷ MYSQL_TYPE_INT24 ∷ MYSQL_TYPE_DATE ∷ MYSQL_TYPE_TIME ∷ MYSQL_TYPE_DATETIME ∷ MYSQL_TYPE_YEAR ∷ MYSQL_TYPE_NEWDATE ∷ MYSQL_TYPE_VARCHAR ∷ MYSQL_TYPE_BIT ∷ MYSQL_TYPE_TIMESTAMP2 ∷ MYSQL_TYPE_DATETIME2 ∷ MYSQL_TYPE_TIME2 ∷ MYSQL_TYPE_BLOB_COMPRESSED ∷ MYSQL_TYPE_VARCHAR_COMPRESSED ∷ MYSQL_TYPE_VECTOR ∷ MYSQL_TYPE_JSON ∷ MYSQL_TYPE_NEWDECIMAL ∷ MYSQL_TYPE_ENUM ∷ MYSQL_TYPE_SET ∷ MYSQL_TYPE_TINY_BLOB ∷ MYSQL_TYPE_MEDIUM_BLOB ∷ MYSQL_TYPE_LONG_BLOB ∷ MYSQL_TYPE_BLOB ∷ MYSQL_TYPE_VAR_STRING ∷ MYSQL_TYPE_STRING ∷ MYSQL_TYPE_GEOMETRY ∷ []

-- The column type with this number.
abbrev pub column_type_of : ℕ → Result ColumnType UnknownColumnType
column_type_of = value_of column_number column_types (λ n. record { 0 = n })
