-- How the values of a column are encoded, by its type and metadata.
-- Source: MySQL's documentation of its source code, `mysql::binlog::event::Rows_event`.
use Rattle.std.specs.Prelude.{ℕ, ◌-◌, ◌^◌, ◌<◌, ◌≤◌, ◌==◌, nat_le, if◌then◌else◌}
use Rattle.binlog_columns.specs.Metadata.{Typed, first_byte, second_byte, bit_count, real_number, string_length}
use Rattle.binlog_columns.specs.declared.column_type.ColumnType.{ColumnType}
use Rattle.binlog_columns.specs.declared.column_type.ColumnType.TheVariants.{MYSQL_TYPE_TINY, MYSQL_TYPE_SHORT, MYSQL_TYPE_LONG, MYSQL_TYPE_FLOAT, MYSQL_TYPE_DOUBLE, MYSQL_TYPE_NULL, MYSQL_TYPE_TIMESTAMP, MYSQL_TYPE_LONGLONG, MYSQL_TYPE_INT24, MYSQL_TYPE_DATE, MYSQL_TYPE_TIME, MYSQL_TYPE_DATETIME, MYSQL_TYPE_YEAR, MYSQL_TYPE_NEWDATE, MYSQL_TYPE_VARCHAR, MYSQL_TYPE_BIT, MYSQL_TYPE_TIMESTAMP2, MYSQL_TYPE_DATETIME2, MYSQL_TYPE_TIME2, MYSQL_TYPE_BLOB_COMPRESSED, MYSQL_TYPE_VARCHAR_COMPRESSED, MYSQL_TYPE_VECTOR, MYSQL_TYPE_JSON, MYSQL_TYPE_NEWDECIMAL, MYSQL_TYPE_ENUM, MYSQL_TYPE_SET, MYSQL_TYPE_TINY_BLOB, MYSQL_TYPE_MEDIUM_BLOB, MYSQL_TYPE_LONG_BLOB, MYSQL_TYPE_BLOB, MYSQL_TYPE_VAR_STRING, MYSQL_TYPE_STRING, MYSQL_TYPE_GEOMETRY}
use Rattle.binlog_columns.specs.declared.layout.Layout.{Layout}
use Rattle.binlog_columns.specs.declared.layout.Layout.TheVariants.{Nothing, Number, Bits, Timestamp2, DateTime2, Time2, Decimal, Counted, Vector}

-- A string of at most this many bytes. Its length takes one byte if that number is at most 255, else two.
abbrev pub string_layout : ℕ → Layout
string_layout max = Counted (if nat_le max 255 then 1 else 2) max

-- A string whose length takes this many bytes.
abbrev pub blob_layout : ℕ → Layout
blob_layout prefix = Counted prefix (256 ^ prefix - 1)

-- The layout of a STRING, whose real type is STRING, ENUM or SET.
abbrev pub real_layout : ℕ → Layout
real_layout metadata = if real_number metadata == 254 then string_layout (string_length metadata) else Number (string_length metadata)

-- The layout for a column of this type and metadata.
abbrev pub layout_as : ColumnType → ℕ → Layout
layout_as MYSQL_TYPE_TINY metadata = Number 1
layout_as MYSQL_TYPE_SHORT metadata = Number 2
layout_as MYSQL_TYPE_LONG metadata = Number 4
layout_as MYSQL_TYPE_FLOAT metadata = Number 4
layout_as MYSQL_TYPE_DOUBLE metadata = Number 8
layout_as MYSQL_TYPE_NULL metadata = Nothing
layout_as MYSQL_TYPE_TIMESTAMP metadata = Number 4
layout_as MYSQL_TYPE_LONGLONG metadata = Number 8
layout_as MYSQL_TYPE_INT24 metadata = Number 3
layout_as MYSQL_TYPE_DATE metadata = Number 3
layout_as MYSQL_TYPE_TIME metadata = Number 3
layout_as MYSQL_TYPE_DATETIME metadata = Number 8
layout_as MYSQL_TYPE_YEAR metadata = Number 1
layout_as MYSQL_TYPE_NEWDATE metadata = Number 3
layout_as MYSQL_TYPE_VARCHAR metadata = string_layout metadata
layout_as MYSQL_TYPE_BIT metadata = Bits (bit_count metadata)
layout_as MYSQL_TYPE_TIMESTAMP2 metadata = Timestamp2 metadata
layout_as MYSQL_TYPE_DATETIME2 metadata = DateTime2 metadata
layout_as MYSQL_TYPE_TIME2 metadata = Time2 metadata
layout_as MYSQL_TYPE_BLOB_COMPRESSED metadata = blob_layout metadata
layout_as MYSQL_TYPE_VARCHAR_COMPRESSED metadata = string_layout metadata
layout_as MYSQL_TYPE_VECTOR metadata = Vector metadata
layout_as MYSQL_TYPE_JSON metadata = blob_layout metadata
layout_as MYSQL_TYPE_NEWDECIMAL metadata = Decimal (first_byte metadata) (second_byte metadata)
layout_as MYSQL_TYPE_ENUM metadata = Number (string_length metadata)
layout_as MYSQL_TYPE_SET metadata = Number (string_length metadata)
layout_as MYSQL_TYPE_TINY_BLOB metadata = blob_layout metadata
layout_as MYSQL_TYPE_MEDIUM_BLOB metadata = blob_layout metadata
layout_as MYSQL_TYPE_LONG_BLOB metadata = blob_layout metadata
layout_as MYSQL_TYPE_BLOB metadata = blob_layout metadata
layout_as MYSQL_TYPE_VAR_STRING metadata = string_layout metadata
layout_as MYSQL_TYPE_STRING metadata = real_layout metadata
layout_as MYSQL_TYPE_GEOMETRY metadata = blob_layout metadata

-- The layout for the values of a column.
abbrev pub layout_of : Typed → Layout
layout_of column = layout_as column.0 column.1

-- The numbers of a layout are in their ranges.
abbrev pub IsLayout : Layout → Type 0
IsLayout Nothing = Unit {0}
IsLayout (Number len) = (1 ≤ len) × (len ≤ 8)
IsLayout (Bits count) = (1 ≤ count) × (count ≤ 64)
IsLayout (Timestamp2 digits) = digits ≤ 6
IsLayout (DateTime2 digits) = digits ≤ 6
IsLayout (Time2 digits) = digits ≤ 6
IsLayout (Decimal precision scale) = (1 ≤ precision) × (precision ≤ 65) × (scale ≤ precision) × (scale ≤ 38)
IsLayout (Counted prefix max) = (1 ≤ prefix) × (prefix ≤ 4) × (max < 256 ^ prefix)
IsLayout (Vector prefix) = (1 ≤ prefix) × (prefix ≤ 4)
