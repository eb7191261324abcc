-- Which column of a log a column of a declared type may be, by the type and the metadata that a table map states.
-- Source: MySQL's documentation of its source code, `Table_map_event`, and MariaDB's of its data types.
use Rattle.std.specs.Prelude.{ℕ, ◌+◌, ◌*◌, ◌==◌, ◌&&◌, ◌||◌, Bool, true, false, length, nat_le, Option, None, Some, if◌then◌else◌}
use Rattle.character_sets.specs.declared.character_set.CharacterSet.{CharacterSet}
use Rattle.binlog_columns.specs.Layouts.{layout_of}
use Rattle.binlog_columns.specs.Metadata.{Typed}
use Rattle.binlog_columns.specs.RealTypes.{real_type}
use Rattle.binlog_columns.specs.declared.column_type.ColumnType.{ColumnType}
use Rattle.binlog_columns.specs.declared.column_type.ColumnType.TheVariants.{MYSQL_TYPE_TINY, MYSQL_TYPE_SHORT, MYSQL_TYPE_LONG, MYSQL_TYPE_FLOAT, MYSQL_TYPE_DOUBLE, MYSQL_TYPE_TIMESTAMP, MYSQL_TYPE_LONGLONG, MYSQL_TYPE_INT24, MYSQL_TYPE_DATE, MYSQL_TYPE_TIME, MYSQL_TYPE_DATETIME, MYSQL_TYPE_YEAR, MYSQL_TYPE_NEWDATE, MYSQL_TYPE_VARCHAR, MYSQL_TYPE_BLOB_COMPRESSED, MYSQL_TYPE_VARCHAR_COMPRESSED, MYSQL_TYPE_VECTOR, MYSQL_TYPE_JSON, MYSQL_TYPE_ENUM, MYSQL_TYPE_SET, MYSQL_TYPE_BLOB, MYSQL_TYPE_VAR_STRING, MYSQL_TYPE_STRING, MYSQL_TYPE_GEOMETRY}
use Rattle.binlog_columns.specs.declared.layout.Layout.{Layout}
use Rattle.binlog_columns.specs.declared.layout.Layout.TheVariants.{Number, Bits, Timestamp2, DateTime2, Time2, Decimal, Counted}
use Rattle.column_files.specs.Types.{Declared, simple, enumeration, several}
use Rattle.column_files.specs.declared.simple_type.IntegerSize.{IntegerSize}
use Rattle.column_files.specs.declared.simple_type.IntegerSize.TheVariants as integers
use Rattle.column_files.specs.declared.simple_type.TemporalKind.{TemporalKind}
use Rattle.column_files.specs.declared.simple_type.TemporalKind.TheVariants as times
use Rattle.column_files.specs.declared.simple_type.LengthSize.{LengthSize}
use Rattle.column_files.specs.declared.simple_type.LengthSize.TheVariants as sizes
use Rattle.column_files.specs.declared.simple_type.SimpleType.{SimpleType}
use Rattle.column_files.specs.declared.simple_type.SimpleType.TheVariants as types
use Rattle.binlog_declared_columns.specs.Widths.{bytes_per_character}

-- ---- types

abbrev pub is_tiny : ColumnType → Bool
is_tiny MYSQL_TYPE_TINY = true
is_tiny _ = false

abbrev pub is_short : ColumnType → Bool
is_short MYSQL_TYPE_SHORT = true
is_short _ = false

abbrev pub is_int24 : ColumnType → Bool
is_int24 MYSQL_TYPE_INT24 = true
is_int24 _ = false

abbrev pub is_long : ColumnType → Bool
is_long MYSQL_TYPE_LONG = true
is_long _ = false

abbrev pub is_longlong : ColumnType → Bool
is_longlong MYSQL_TYPE_LONGLONG = true
is_longlong _ = false

abbrev pub is_integer : IntegerSize → ColumnType → Bool
is_integer integers.Tiny type = is_tiny type
is_integer integers.Small type = is_short type
is_integer integers.Medium type = is_int24 type
is_integer integers.Regular type = is_long type
is_integer integers.Big type = is_longlong type

abbrev pub is_float : ColumnType → Bool
is_float MYSQL_TYPE_FLOAT = true
is_float _ = false

abbrev pub is_double : ColumnType → Bool
is_double MYSQL_TYPE_DOUBLE = true
is_double _ = false

abbrev pub is_year : ColumnType → Bool
is_year MYSQL_TYPE_YEAR = true
is_year _ = false

abbrev pub is_date : ColumnType → Bool
is_date MYSQL_TYPE_DATE = true
is_date MYSQL_TYPE_NEWDATE = true
is_date _ = false

abbrev pub is_string : ColumnType → Bool
is_string MYSQL_TYPE_STRING = true
is_string _ = false

abbrev pub is_varchar : ColumnType → Bool
is_varchar MYSQL_TYPE_VARCHAR = true
is_varchar MYSQL_TYPE_VAR_STRING = true
is_varchar _ = false

abbrev pub is_compressed_varchar : ColumnType → Bool
is_compressed_varchar MYSQL_TYPE_VARCHAR_COMPRESSED = true
is_compressed_varchar _ = false

abbrev pub is_blob : ColumnType → Bool
is_blob MYSQL_TYPE_BLOB = true
is_blob _ = false

abbrev pub is_compressed_blob : ColumnType → Bool
is_compressed_blob MYSQL_TYPE_BLOB_COMPRESSED = true
is_compressed_blob _ = false

abbrev pub is_geometry : ColumnType → Bool
is_geometry MYSQL_TYPE_GEOMETRY = true
is_geometry _ = false

abbrev pub is_json : ColumnType → Bool
is_json MYSQL_TYPE_JSON = true
is_json _ = false

abbrev pub is_vector : ColumnType → Bool
is_vector MYSQL_TYPE_VECTOR = true
is_vector _ = false

abbrev pub is_enum : ColumnType → Bool
is_enum MYSQL_TYPE_ENUM = true
is_enum _ = false

abbrev pub is_set : ColumnType → Bool
is_set MYSQL_TYPE_SET = true
is_set _ = false

-- A type of times without a fraction, of old servers.
abbrev pub is_old_time : ColumnType → Bool
is_old_time MYSQL_TYPE_TIME = true
is_old_time _ = false

abbrev pub is_old_datetime : ColumnType → Bool
is_old_datetime MYSQL_TYPE_DATETIME = true
is_old_datetime _ = false

abbrev pub is_old_timestamp : ColumnType → Bool
is_old_timestamp MYSQL_TYPE_TIMESTAMP = true
is_old_timestamp _ = false

abbrev pub is_old_temporal : TemporalKind → ColumnType → Bool
is_old_temporal times.Time type = is_old_time type
is_old_temporal times.DateTime type = is_old_datetime type
is_old_temporal times.Timestamp type = is_old_timestamp type

-- ---- layouts

abbrev pub is_time_of : ℕ → Layout → Bool
is_time_of digits (Time2 stated) = stated == digits
is_time_of digits _ = false

abbrev pub is_datetime_of : ℕ → Layout → Bool
is_datetime_of digits (DateTime2 stated) = stated == digits
is_datetime_of digits _ = false

abbrev pub is_timestamp_of : ℕ → Layout → Bool
is_timestamp_of digits (Timestamp2 stated) = stated == digits
is_timestamp_of digits _ = false

-- The values have a fraction of this many digits.
abbrev pub has_digits : TemporalKind → ℕ → Layout → Bool
has_digits times.Time digits layout = is_time_of digits layout
has_digits times.DateTime digits layout = is_datetime_of digits layout
has_digits times.Timestamp digits layout = is_timestamp_of digits layout

abbrev pub has_bits : ℕ → Layout → Bool
has_bits count (Bits stated) = stated == count
has_bits count _ = false

abbrev pub has_precision : ℕ → ℕ → Layout → Bool
has_precision precision scale (Decimal stated_precision stated_scale) = (stated_precision == precision) && (stated_scale == scale)
has_precision precision scale _ = false

-- The greatest number of bytes is this.
abbrev pub has_max : ℕ → Layout → Bool
has_max max (Counted prefix stated) = stated == max
has_max max _ = false

-- The length of a value takes this many bytes.
abbrev pub has_prefix : ℕ → Layout → Bool
has_prefix prefix (Counted stated max) = stated == prefix
has_prefix prefix _ = false

-- A value is a number of this many bytes.
abbrev pub has_size : ℕ → Layout → Bool
has_size size (Number stated) = stated == size
has_size size _ = false

-- ---- declared types

abbrev pub prefix_of : LengthSize → ℕ
prefix_of sizes.Tiny = 1
prefix_of sizes.Regular = 2
prefix_of sizes.Medium = 3
prefix_of sizes.Long = 4

-- The bytes of as many characters are the greatest number of bytes, and this many more; false if the character set isn't known.
abbrev pub has_characters : ℕ → ℕ → Option CharacterSet → Layout → Bool
has_characters count more None layout = false
has_characters count more (Some set) layout = has_max (count * bytes_per_character set + more) layout

-- A column of times with this many digits behind the second. Values of the old types are read as they are without a fraction: with one
-- MariaDB stores them in another form under the same number, so no column is taken for one of these.
abbrev pub is_temporal : TemporalKind → ℕ → Bool → ColumnType → Layout → Bool
is_temporal kind digits true type layout = (digits == 0) && is_old_temporal kind type
is_temporal kind digits false type layout = has_digits kind digits layout || ((digits == 0) && is_old_temporal kind type)

-- A string of variable length, with this many bytes at most; the length of compressed ones counts a byte more.
abbrev pub is_var_binary : ℕ → Bool → ColumnType → Layout → Bool
is_var_binary count true type layout = is_compressed_varchar type && has_max (count + 1) layout
is_var_binary count false type layout = is_varchar type && has_max count layout

abbrev pub is_var_char : ℕ → Bool → Option CharacterSet → ColumnType → Layout → Bool
is_var_char count true set type layout = is_compressed_varchar type && has_characters count 1 set layout
is_var_char count false set type layout = is_varchar type && has_characters count 0 set layout

-- A TEXT or a BLOB.
abbrev pub is_large : LengthSize → Bool → ColumnType → Layout → Bool
is_large size true type layout = is_compressed_blob type && has_prefix (prefix_of size) layout
is_large size false type layout = is_blob type && has_prefix (prefix_of size) layout

-- Strings, and what is stored as bytes.
abbrev pub is_stored : SimpleType → Option CharacterSet → ColumnType → Layout → Bool
is_stored (types.Char count) set type layout = is_string type && has_characters count 0 set layout
is_stored (types.Binary count) set type layout = is_string type && has_max count layout
is_stored (types.VarChar count is_compressed) set type layout = is_var_char count is_compressed set type layout
is_stored (types.VarBinary count is_compressed) set type layout = is_var_binary count is_compressed type layout
is_stored (types.Text size is_compressed) set type layout = is_large size is_compressed type layout
is_stored (types.Blob size is_compressed) set type layout = is_large size is_compressed type layout
is_stored types.Geometry set type layout = is_geometry type
is_stored types.Json set type layout = is_json type
is_stored types.Inet4 set type layout = is_string type && has_max 4 layout
is_stored types.Inet6 set type layout = is_string type && has_max 16 layout
is_stored types.Uuid set type layout = is_string type && has_max 16 layout
is_stored (types.Vector count) set type layout = is_vector type || (is_varchar type && has_max (4 * count) layout)
is_stored _ set type layout = false

abbrev pub is_simple : SimpleType → Option CharacterSet → ColumnType → Layout → Bool
is_simple (types.Integer size is_unsigned) set type layout = is_integer size type
is_simple (types.Float is_unsigned) set type layout = is_float type
is_simple (types.Double is_unsigned) set type layout = is_double type
is_simple (types.Decimal precision scale is_unsigned) set type layout = has_precision precision scale layout
is_simple (types.Bit count) set type layout = has_bits count layout
is_simple types.Year set type layout = is_year type
is_simple types.Date set type layout = is_date type
is_simple (types.Temporal kind digits is_old) set type layout = is_temporal kind digits is_old type layout
is_simple other set type layout = is_stored other set type layout

-- The number of bytes of the values of an ENUM with this many members.
abbrev pub enum_size : ℕ → ℕ
enum_size count = if nat_le count 255 then 1 else 2

-- The number of bytes of the values of a SET with this many members.
abbrev pub set_size : ℕ → ℕ
set_size count = if nat_le count 8 then 1 else if nat_le count 16 then 2 else if nat_le count 24 then 3 else if nat_le count 32 then 4 else 8

-- A column of this type and metadata may be one of the declared type, with a character set.
abbrev pub is_possible : Declared → Option CharacterSet → Typed → Bool
is_possible (simple type) set column = is_simple type set (real_type column) (layout_of column)
is_possible (enumeration members) set column = is_enum (real_type column) && has_size (enum_size (length members)) (layout_of column)
is_possible (several members) set column = is_set (real_type column) && has_size (set_size (length members)) (layout_of column)
