-- How the values of a column are read: the kind of a value, with the widths and limits of its bytes.
use Rattle.std.specs.Prelude.{ℕ, ◌==◌, Bool, if◌then◌else◌}
use Rattle.binlog_columns.specs.Metadata.{Typed, real_number}
use Rattle.binlog_columns.specs.Layouts.{layout_of}
use Rattle.binlog_columns.specs.declared.column_type.ColumnType.{ColumnType}
use Rattle.binlog_columns.specs.declared.column_type.ColumnType.TheVariants.{MYSQL_TYPE_FLOAT, MYSQL_TYPE_DOUBLE, MYSQL_TYPE_TIMESTAMP, MYSQL_TYPE_DATE, MYSQL_TYPE_TIME, MYSQL_TYPE_DATETIME, MYSQL_TYPE_YEAR, MYSQL_TYPE_NEWDATE, MYSQL_TYPE_BLOB_COMPRESSED, MYSQL_TYPE_VARCHAR_COMPRESSED, MYSQL_TYPE_JSON, MYSQL_TYPE_ENUM, MYSQL_TYPE_SET, MYSQL_TYPE_STRING, MYSQL_TYPE_GEOMETRY}
use Rattle.binlog_columns.specs.declared.decoder.Decoder.{Decoder}
use Rattle.binlog_columns.specs.declared.decoder.Decoder.TheVariants as decoders
use Rattle.binlog_columns.specs.declared.layout.Layout.{Layout}
use Rattle.binlog_columns.specs.declared.layout.Layout.TheVariants as layouts

-- The layout of the values that a decoder reads.
abbrev pub layout_in : Decoder → Layout
layout_in decoders.Nothing = layouts.Nothing
layout_in (decoders.Integer size) = layouts.Number size
layout_in decoders.Float = layouts.Number 4
layout_in decoders.Double = layouts.Number 8
layout_in decoders.Date = layouts.Number 3
layout_in decoders.Year = layouts.Number 1
layout_in decoders.Timestamp = layouts.Number 4
layout_in decoders.Time = layouts.Number 3
layout_in decoders.DateTime = layouts.Number 8
layout_in (decoders.Enum size) = layouts.Number size
layout_in (decoders.Set size) = layouts.Number size
layout_in (decoders.Bits count) = layouts.Bits count
layout_in (decoders.Timestamp2 digits) = layouts.Timestamp2 digits
layout_in (decoders.DateTime2 digits) = layouts.DateTime2 digits
layout_in (decoders.Time2 digits) = layouts.Time2 digits
layout_in (decoders.Decimal precision scale) = layouts.Decimal precision scale
layout_in (decoders.Bytes prefix max) = layouts.Counted prefix max
layout_in (decoders.Json prefix max) = layouts.Counted prefix max
layout_in (decoders.Geometry prefix max) = layouts.Counted prefix max
layout_in (decoders.Compressed prefix max) = layouts.Counted prefix max
layout_in (decoders.Vector prefix) = layouts.Vector prefix

-- The decoder of an ENUM or a SET in this many bytes.
abbrev pub listed_decoder : Bool → ℕ → Decoder
listed_decoder states_enum len = if states_enum then decoders.Enum len else decoders.Set len

-- The decoder for numbers of this many bytes, in a column of this type; its metadata states the type ENUM or not.
abbrev pub number_decoder : ColumnType → Bool → ℕ → Decoder
number_decoder MYSQL_TYPE_FLOAT states_enum len = decoders.Float
number_decoder MYSQL_TYPE_DOUBLE states_enum len = decoders.Double
number_decoder MYSQL_TYPE_DATE states_enum len = decoders.Date
number_decoder MYSQL_TYPE_NEWDATE states_enum len = decoders.Date
number_decoder MYSQL_TYPE_YEAR states_enum len = decoders.Year
number_decoder MYSQL_TYPE_TIMESTAMP states_enum len = decoders.Timestamp
number_decoder MYSQL_TYPE_TIME states_enum len = decoders.Time
number_decoder MYSQL_TYPE_DATETIME states_enum len = decoders.DateTime
number_decoder MYSQL_TYPE_STRING states_enum len = listed_decoder states_enum len
number_decoder MYSQL_TYPE_ENUM states_enum len = listed_decoder states_enum len
number_decoder MYSQL_TYPE_SET states_enum len = listed_decoder states_enum len
number_decoder _ states_enum len = decoders.Integer len

-- The decoder for bytes after their length, in a column of this type.
abbrev pub bytes_decoder : ColumnType → ℕ → ℕ → Decoder
bytes_decoder MYSQL_TYPE_JSON prefix max = decoders.Json prefix max
bytes_decoder MYSQL_TYPE_GEOMETRY prefix max = decoders.Geometry prefix max
bytes_decoder MYSQL_TYPE_BLOB_COMPRESSED prefix max = decoders.Compressed prefix max
bytes_decoder MYSQL_TYPE_VARCHAR_COMPRESSED prefix max = decoders.Compressed prefix max
bytes_decoder _ prefix max = decoders.Bytes prefix max

-- The decoder for values of this layout, in a column of this type.
abbrev pub decoder_by : ColumnType → Bool → Layout → Decoder
decoder_by column_type states_enum layouts.Nothing = decoders.Nothing
decoder_by column_type states_enum (layouts.Number len) = number_decoder column_type states_enum len
decoder_by column_type states_enum (layouts.Bits count) = decoders.Bits count
decoder_by column_type states_enum (layouts.Timestamp2 digits) = decoders.Timestamp2 digits
decoder_by column_type states_enum (layouts.DateTime2 digits) = decoders.DateTime2 digits
decoder_by column_type states_enum (layouts.Time2 digits) = decoders.Time2 digits
decoder_by column_type states_enum (layouts.Decimal precision scale) = decoders.Decimal precision scale
decoder_by column_type states_enum (layouts.Counted prefix max) = bytes_decoder column_type prefix max
decoder_by column_type states_enum (layouts.Vector prefix) = decoders.Vector prefix

-- The decoder for the values of a column.
abbrev pub decoder_of : Typed → Decoder
decoder_of column = decoder_by column.0 (real_number column.1 == 247) (layout_of column)
