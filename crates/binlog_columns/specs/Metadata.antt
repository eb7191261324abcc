-- The metadata of a column: a little-endian number, whose length in bytes the column's type determines.
-- Source: MySQL's documentation of its source code, `mysql::binlog::event::Table_map_event`.
use Rattle.std.specs.Prelude.{ℕ, ◌+◌, ◌-◌, ◌*◌, ◌/◌, ◌%◌, ◌==◌, ◌&&◌, ◌||◌, Bool, true, nat_le, Result, Ok, Err, refl}
use Rattle.binlog_wire.specs.declared.error.Invalid.TheVariants.{FieldRange}
use Rattle.binlog_wire.specs.Formats.{Format, anywhere, allowed, nowhere, made}
use Rattle.binlog_columns.specs.ColumnTypes.{column_type_of}
use Rattle.binlog_columns.specs.declared.column_type.ColumnType.{ColumnType}
use Rattle.binlog_columns.specs.declared.column_type.ColumnType.TheVariants.{MYSQL_TYPE_FLOAT, MYSQL_TYPE_DOUBLE, MYSQL_TYPE_VARCHAR, MYSQL_TYPE_BIT, MYSQL_TYPE_TIMESTAMP2, MYSQL_TYPE_DATETIME2, MYSQL_TYPE_TIME2, MYSQL_TYPE_BLOB_COMPRESSED, MYSQL_TYPE_VARCHAR_COMPRESSED, MYSQL_TYPE_VECTOR, MYSQL_TYPE_JSON, MYSQL_TYPE_NEWDECIMAL, MYSQL_TYPE_ENUM, MYSQL_TYPE_SET, MYSQL_TYPE_TINY_BLOB, MYSQL_TYPE_MEDIUM_BLOB, MYSQL_TYPE_LONG_BLOB, MYSQL_TYPE_BLOB, MYSQL_TYPE_VAR_STRING, MYSQL_TYPE_STRING, MYSQL_TYPE_GEOMETRY}
use Rattle.binlog_columns.specs.declared.column_type.UnknownColumnType.{UnknownColumnType}

-- The number of bytes of metadata that a column of this type has.
abbrev pub metadata_len : ColumnType → ℕ
metadata_len MYSQL_TYPE_FLOAT = 1
metadata_len MYSQL_TYPE_DOUBLE = 1
metadata_len MYSQL_TYPE_TIMESTAMP2 = 1
metadata_len MYSQL_TYPE_DATETIME2 = 1
metadata_len MYSQL_TYPE_TIME2 = 1
metadata_len MYSQL_TYPE_BLOB_COMPRESSED = 1
metadata_len MYSQL_TYPE_VECTOR = 1
metadata_len MYSQL_TYPE_JSON = 1
metadata_len MYSQL_TYPE_TINY_BLOB = 1
metadata_len MYSQL_TYPE_MEDIUM_BLOB = 1
metadata_len MYSQL_TYPE_LONG_BLOB = 1
metadata_len MYSQL_TYPE_BLOB = 1
metadata_len MYSQL_TYPE_GEOMETRY = 1
metadata_len MYSQL_TYPE_VARCHAR = 2
metadata_len MYSQL_TYPE_BIT = 2
metadata_len MYSQL_TYPE_VARCHAR_COMPRESSED = 2
metadata_len MYSQL_TYPE_NEWDECIMAL = 2
metadata_len MYSQL_TYPE_ENUM = 2
metadata_len MYSQL_TYPE_SET = 2
metadata_len MYSQL_TYPE_VAR_STRING = 2
metadata_len MYSQL_TYPE_STRING = 2
metadata_len _ = 0

-- ---- what the metadata states

-- The first byte of two.
abbrev pub first_byte : ℕ → ℕ
first_byte metadata = metadata % 256

-- The second byte of two.
abbrev pub second_byte : ℕ → ℕ
second_byte metadata = metadata / 256

-- BIT: the number of bits, from the number of bits over whole bytes and the number of whole bytes.
abbrev pub bit_count : ℕ → ℕ
bit_count metadata = 8 * second_byte metadata + first_byte metadata

-- STRING: the two high bits of the length, which are bits 4 and 5 of the first byte, inverted.
abbrev pub high_bits : ℕ → ℕ
high_bits metadata = 3 - first_byte metadata / 16 % 4

-- STRING: the number of the real type, which is the first byte with bits 4 and 5 set.
abbrev pub real_number : ℕ → ℕ
real_number metadata = first_byte metadata + 16 * high_bits metadata

-- STRING: the length in bytes, 0 to 1,023.
abbrev pub string_length : ℕ → ℕ
string_length metadata = second_byte metadata + 256 * high_bits metadata

-- ---- which metadata is allowed

-- One to four bytes.
abbrev pub is_size : ℕ → Bool
is_size metadata = nat_le 1 metadata && nat_le metadata 4

-- Up to six decimal digits.
abbrev pub is_fraction : ℕ → Bool
is_fraction metadata = nat_le metadata 6

-- A precision of 1 to 65, and a scale up to 38 that isn't above it.
abbrev pub is_decimal : ℕ → Bool
is_decimal metadata = nat_le 1 (first_byte metadata) && nat_le (first_byte metadata) 65 && nat_le (second_byte metadata) (first_byte metadata) && nat_le (second_byte metadata) 38

-- At most seven bits over whole bytes, and 1 to 64 bits.
abbrev pub is_bit : ℕ → Bool
is_bit metadata = nat_le (first_byte metadata) 7 && nat_le 1 (bit_count metadata) && nat_le (bit_count metadata) 64

-- An ENUM in one or two bytes, or a SET in one to eight.
abbrev pub is_enum_or_set : ℕ → Bool
is_enum_or_set metadata = real_number metadata == 247 && nat_le 1 (string_length metadata) && nat_le (string_length metadata) 2
    || real_number metadata == 248 && nat_le 1 (string_length metadata) && nat_le (string_length metadata) 8

-- A string of any length, an ENUM or a SET.
abbrev pub is_string : ℕ → Bool
is_string metadata = real_number metadata == 254 || is_enum_or_set metadata

-- The metadata is allowed for a column of this type.
abbrev pub is_metadata : ColumnType → ℕ → Bool
is_metadata MYSQL_TYPE_FLOAT metadata = metadata == 4
is_metadata MYSQL_TYPE_DOUBLE metadata = metadata == 8
is_metadata MYSQL_TYPE_TIMESTAMP2 metadata = is_fraction metadata
is_metadata MYSQL_TYPE_DATETIME2 metadata = is_fraction metadata
is_metadata MYSQL_TYPE_TIME2 metadata = is_fraction metadata
is_metadata MYSQL_TYPE_BLOB_COMPRESSED metadata = is_size metadata
is_metadata MYSQL_TYPE_VECTOR metadata = is_size metadata
is_metadata MYSQL_TYPE_JSON metadata = is_size metadata
is_metadata MYSQL_TYPE_TINY_BLOB metadata = is_size metadata
is_metadata MYSQL_TYPE_MEDIUM_BLOB metadata = is_size metadata
is_metadata MYSQL_TYPE_LONG_BLOB metadata = is_size metadata
is_metadata MYSQL_TYPE_BLOB metadata = is_size metadata
is_metadata MYSQL_TYPE_GEOMETRY metadata = is_size metadata
is_metadata MYSQL_TYPE_BIT metadata = is_bit metadata
is_metadata MYSQL_TYPE_NEWDECIMAL metadata = is_decimal metadata
is_metadata MYSQL_TYPE_ENUM metadata = is_enum_or_set metadata
is_metadata MYSQL_TYPE_SET metadata = is_enum_or_set metadata
is_metadata MYSQL_TYPE_STRING metadata = is_string metadata
is_metadata _ metadata = true

-- ---- the format

-- A column: its type and its metadata.
abbrev pub Typed : Type 0
Typed = ColumnType × ℕ

-- The metadata of a column whose type's number is this one, if it is known.
abbrev pub column_as : ℕ → Result ColumnType UnknownColumnType → Format anywhere Typed
column_as number (Ok column_type) = made {A = ℕ} (λ metadata. (column_type, metadata)) (λ column. column.1)
    (allowed (metadata_len column_type) (is_metadata column_type) (λ _. FieldRange number)) (λ s a r h. refl) (λ _. refl)
column_as number (Err unknown) = nowhere number

-- The metadata of a column whose type has this number. It is refused as `other_type` if the number isn't that of a
-- type, as `ends` if its bytes aren't all there, and as `invalid` if it isn't allowed.
abbrev pub column : ℕ → Format anywhere Typed
column number = column_as number (column_type_of number)
