-- What is stored for a value in a column, or why the value is refused.
use Rattle.std.specs.Prelude.{ℕ, ◌%◌, ◌^◌, ◌==◌, ◌&&◌, Bool, nat_lt, nat_le, List, length, if◌then◌else◌, Result, Ok, Err}
use Rattle.binlog_columns.specs.Metadata.{Typed, real_number}
use Rattle.binlog_columns.specs.Layouts.{layout_of}
use Rattle.binlog_columns.specs.declared.layout.Layout.{Layout}
use Rattle.binlog_columns.specs.declared.layout.Layout.TheVariants as layouts
use Rattle.binlog_columns.specs.declared.column_type.ColumnType.{ColumnType}
use Rattle.binlog_columns.specs.declared.column_type.ColumnType.TheVariants.{MYSQL_TYPE_FLOAT, MYSQL_TYPE_DOUBLE, MYSQL_TYPE_TIMESTAMP, MYSQL_TYPE_DATE, MYSQL_TYPE_TIME, MYSQL_TYPE_DATETIME, MYSQL_TYPE_YEAR, MYSQL_TYPE_NEWDATE, MYSQL_TYPE_BLOB_COMPRESSED, MYSQL_TYPE_VARCHAR_COMPRESSED, MYSQL_TYPE_JSON, MYSQL_TYPE_ENUM, MYSQL_TYPE_SET, MYSQL_TYPE_STRING, MYSQL_TYPE_GEOMETRY}
use Rattle.binlog_values.specs.Contents.{Content, of_number, of_bytes}
use Rattle.binlog_row_writing.specs.Numbers.{Numbered, integer_number, float_number, double_number, year_number, bit_number, enum_number, set_number}
use Rattle.binlog_row_writing.specs.Times.{date_number, time_number, datetime_number, timestamp_number, timestamp2_number, datetime2_number, time2_number}
use Rattle.binlog_row_writing.specs.declared.new_value.NewValue.{NewValue}
use Rattle.binlog_row_writing.specs.declared.new_value.NewValue.TheVariants.{Decimal, Bytes, Json, Geometry, Vector, Compressed}
use Rattle.binlog_row_writing.specs.declared.new_decimal.NewDecimal.{NewDecimal}
use Rattle.binlog_row_writing.specs.declared.row_write_error.RowWriteErrorKind.{RowWriteErrorKind}
use Rattle.binlog_row_writing.specs.declared.row_write_error.RowWriteErrorKind.TheVariants.{WrongType, OutOfRange}

-- A content, or why there is none.
abbrev pub Contained : Type 0
Contained = Result Content RowWriteErrorKind

-- Bytes, or why there are none.
abbrev pub Spelled : Type 0
Spelled = Result (List ℕ) RowWriteErrorKind

-- ---- numbers

-- The number fits so many bytes.
abbrev pub fits_bytes : ℕ → ℕ → Bool
fits_bytes len n = nat_lt n (256 ^ len)

-- The number fits so many bits.
abbrev pub fits_bits : ℕ → ℕ → Bool
fits_bits count n = nat_lt n (2 ^ count)

-- An ENUM or a SET, by the metadata of a STRING, an ENUM or a SET.
abbrev pub listed_number : ℕ → NewValue → Numbered
listed_number metadata value = if real_number metadata == 247 then enum_number value else set_number value

-- The number of a value in a column of this type and metadata, whose numbers have so many bytes.
abbrev pub number_in_column : ℕ → ColumnType → ℕ → NewValue → Numbered
number_in_column len MYSQL_TYPE_FLOAT metadata value = float_number value
number_in_column len MYSQL_TYPE_DOUBLE metadata value = double_number value
number_in_column len MYSQL_TYPE_DATE metadata value = date_number value
number_in_column len MYSQL_TYPE_NEWDATE metadata value = date_number value
number_in_column len MYSQL_TYPE_YEAR metadata value = year_number value
number_in_column len MYSQL_TYPE_TIMESTAMP metadata value = timestamp_number value
number_in_column len MYSQL_TYPE_TIME metadata value = time_number value
number_in_column len MYSQL_TYPE_DATETIME metadata value = datetime_number value
number_in_column len MYSQL_TYPE_STRING metadata value = listed_number metadata value
number_in_column len MYSQL_TYPE_ENUM metadata value = listed_number metadata value
number_in_column len MYSQL_TYPE_SET metadata value = listed_number metadata value
number_in_column len _ metadata value = integer_number len value

-- A number that fits.
abbrev pub number_if : Bool → ℕ → Contained
number_if fits n = if fits then Ok (of_number n) else Err OutOfRange

-- A number for which a test holds.
abbrev pub tested_number : (ℕ → Bool) → Numbered → Contained
tested_number test (Ok n) = number_if (test n) n
tested_number test (Err e) = Err e

-- A number that always fits.
abbrev pub any_number : Numbered → Contained
any_number (Ok n) = Ok (of_number n)
any_number (Err e) = Err e

-- ---- bytes

abbrev pub string_bytes : NewValue → Spelled
string_bytes (Bytes s) = Ok s.now
string_bytes _ = Err WrongType

abbrev pub json_bytes : NewValue → Spelled
json_bytes (Json s) = Ok s.now
json_bytes _ = Err WrongType

abbrev pub geometry_bytes : NewValue → Spelled
geometry_bytes (Geometry s) = Ok s.now
geometry_bytes _ = Err WrongType

abbrev pub vector_bytes : NewValue → Spelled
vector_bytes (Vector s) = Ok s.now
vector_bytes _ = Err WrongType

abbrev pub compressed_bytes : NewValue → Spelled
compressed_bytes (Compressed s) = Ok s.now
compressed_bytes _ = Err WrongType

-- The bytes of a value in a column of this type whose values are bytes after their length.
abbrev pub bytes_in_column : ColumnType → NewValue → Spelled
bytes_in_column MYSQL_TYPE_JSON value = json_bytes value
bytes_in_column MYSQL_TYPE_GEOMETRY value = geometry_bytes value
bytes_in_column MYSQL_TYPE_BLOB_COMPRESSED value = compressed_bytes value
bytes_in_column MYSQL_TYPE_VARCHAR_COMPRESSED value = compressed_bytes value
bytes_in_column _ value = string_bytes value

-- Bytes that fit.
abbrev pub bytes_if : Bool → List ℕ → Contained
bytes_if fits s = if fits then Ok (of_bytes s) else Err OutOfRange

-- Bytes for whose length a test holds.
abbrev pub tested_bytes : (ℕ → Bool) → Spelled → Contained
tested_bytes test (Ok s) = bytes_if (test (length s)) s
tested_bytes test (Err e) = Err e

-- The length is at most the greatest, and fits its bytes.
abbrev pub is_counted : ℕ → ℕ → ℕ → Bool
is_counted prefix max len = nat_le len max && fits_bytes prefix len

-- The length is a multiple of four, and fits its bytes.
abbrev pub is_vector : ℕ → ℕ → Bool
is_vector prefix len = len % 4 == 0 && fits_bytes prefix len

-- ---- decimal numbers

abbrev pub decimal_of : NewValue → Result NewDecimal RowWriteErrorKind
decimal_of (Decimal d) = Ok d.now
decimal_of _ = Err WrongType

-- A decimal number of this precision and scale.
abbrev pub decimal_content : ℕ → ℕ → Result NewDecimal RowWriteErrorKind → Contained
decimal_content precision scale (Ok d) = bytes_if (d.precision == precision && d.scale == scale) d.bytes.items
decimal_content precision scale (Err e) = Err e

-- ---- any column

-- What is stored for a value in a column of this layout, type and metadata.
abbrev pub content_by : Layout → ColumnType → ℕ → NewValue → Contained
content_by layouts.Nothing column_type metadata value = Err WrongType
content_by (layouts.Number len) column_type metadata value = tested_number (fits_bytes len) (number_in_column len column_type metadata value)
content_by (layouts.Bits count) column_type metadata value = tested_number (fits_bits count) (bit_number value)
content_by (layouts.Timestamp2 digits) column_type metadata value = any_number (timestamp2_number digits value)
content_by (layouts.DateTime2 digits) column_type metadata value = any_number (datetime2_number digits value)
content_by (layouts.Time2 digits) column_type metadata value = any_number (time2_number digits value)
content_by (layouts.Decimal precision scale) column_type metadata value = decimal_content precision scale (decimal_of value)
content_by (layouts.Counted prefix max) column_type metadata value = tested_bytes (is_counted prefix max) (bytes_in_column column_type value)
content_by (layouts.Vector prefix) column_type metadata value = tested_bytes (is_vector prefix) (vector_bytes value)

-- What is stored for a value in a column.
abbrev pub content_for : Typed → NewValue → Contained
content_for column value = content_by (layout_of column) column.0 column.1 value
