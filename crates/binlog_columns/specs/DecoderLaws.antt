-- The values that a column's decoder reads have the column's layout.
use Rattle.std.proofs.Common.{◌≡◌, ℕ, ◌<◌, Bool, true, false, cond, refl}
use Rattle.std.specs.Prelude.{◌==◌}
use Rattle.binlog_columns.specs.Metadata.{Typed, real_number, string_length, is_metadata}
use Rattle.binlog_columns.specs.LayoutLaws.{sound_layout}
use Rattle.binlog_columns.specs.Layouts.{string_layout, layout_as, layout_of, IsLayout}
use Rattle.binlog_columns.specs.Decoders.{layout_in, listed_decoder, decoder_by, decoder_of}
use Rattle.binlog_columns.specs.declared.layout.Layout.TheVariants.{Number}
use Rattle.binlog_columns.specs.declared.column_type.ColumnType.{ColumnType}
use Rattle.binlog_columns.specs.declared.column_type.ColumnType.TheVariants.{MYSQL_TYPE_TINY, MYSQL_TYPE_SHORT, MYSQL_TYPE_LONG, MYSQL_TYPE_FLOAT, MYSQL_TYPE_DOUBLE, MYSQL_TYPE_NULL, MYSQL_TYPE_TIMESTAMP, MYSQL_TYPE_LONGLONG, MYSQL_TYPE_INT24, MYSQL_TYPE_DATE, MYSQL_TYPE_TIME, MYSQL_TYPE_DATETIME, MYSQL_TYPE_YEAR, MYSQL_TYPE_NEWDATE, MYSQL_TYPE_VARCHAR, MYSQL_TYPE_BIT, MYSQL_TYPE_TIMESTAMP2, MYSQL_TYPE_DATETIME2, MYSQL_TYPE_TIME2, MYSQL_TYPE_BLOB_COMPRESSED, MYSQL_TYPE_VARCHAR_COMPRESSED, MYSQL_TYPE_VECTOR, MYSQL_TYPE_JSON, MYSQL_TYPE_NEWDECIMAL, MYSQL_TYPE_ENUM, MYSQL_TYPE_SET, MYSQL_TYPE_TINY_BLOB, MYSQL_TYPE_MEDIUM_BLOB, MYSQL_TYPE_LONG_BLOB, MYSQL_TYPE_BLOB, MYSQL_TYPE_VAR_STRING, MYSQL_TYPE_STRING, MYSQL_TYPE_GEOMETRY}

listed : (states_enum : Bool) (len : ℕ) → layout_in (listed_decoder states_enum len) ≡ Number len
listed true len = refl
listed false len = refl

real : (is_string states_enum : Bool) (len : ℕ)
    → layout_in (decoder_by MYSQL_TYPE_STRING states_enum (cond is_string (string_layout len) (Number len))) ≡ cond is_string (string_layout len) (Number len)
real true states_enum len = refl
real false states_enum len = listed states_enum len

-- The law.
pub same_layout : (t : ColumnType) (m : ℕ) (states_enum : Bool) → layout_in (decoder_by t states_enum (layout_as t m)) ≡ layout_as t m
same_layout MYSQL_TYPE_TINY m states_enum = refl
same_layout MYSQL_TYPE_SHORT m states_enum = refl
same_layout MYSQL_TYPE_LONG m states_enum = refl
same_layout MYSQL_TYPE_FLOAT m states_enum = refl
same_layout MYSQL_TYPE_DOUBLE m states_enum = refl
same_layout MYSQL_TYPE_NULL m states_enum = refl
same_layout MYSQL_TYPE_TIMESTAMP m states_enum = refl
same_layout MYSQL_TYPE_LONGLONG m states_enum = refl
same_layout MYSQL_TYPE_INT24 m states_enum = refl
same_layout MYSQL_TYPE_DATE m states_enum = refl
same_layout MYSQL_TYPE_TIME m states_enum = refl
same_layout MYSQL_TYPE_DATETIME m states_enum = refl
same_layout MYSQL_TYPE_YEAR m states_enum = refl
same_layout MYSQL_TYPE_NEWDATE m states_enum = refl
same_layout MYSQL_TYPE_VARCHAR m states_enum = refl
same_layout MYSQL_TYPE_BIT m states_enum = refl
same_layout MYSQL_TYPE_TIMESTAMP2 m states_enum = refl
same_layout MYSQL_TYPE_DATETIME2 m states_enum = refl
same_layout MYSQL_TYPE_TIME2 m states_enum = refl
same_layout MYSQL_TYPE_BLOB_COMPRESSED m states_enum = refl
same_layout MYSQL_TYPE_VARCHAR_COMPRESSED m states_enum = refl
same_layout MYSQL_TYPE_VECTOR m states_enum = refl
same_layout MYSQL_TYPE_JSON m states_enum = refl
same_layout MYSQL_TYPE_NEWDECIMAL m states_enum = refl
same_layout MYSQL_TYPE_ENUM m states_enum = listed states_enum (string_length m)
same_layout MYSQL_TYPE_SET m states_enum = listed states_enum (string_length m)
same_layout MYSQL_TYPE_TINY_BLOB m states_enum = refl
same_layout MYSQL_TYPE_MEDIUM_BLOB m states_enum = refl
same_layout MYSQL_TYPE_LONG_BLOB m states_enum = refl
same_layout MYSQL_TYPE_BLOB m states_enum = refl
same_layout MYSQL_TYPE_VAR_STRING m states_enum = refl
same_layout MYSQL_TYPE_STRING m states_enum = real (real_number m == 254) states_enum (string_length m)
same_layout MYSQL_TYPE_GEOMETRY m states_enum = refl

pub decoder_has_layout : (column : Typed) → layout_in (decoder_of column) ≡ layout_of column
decoder_has_layout column = same_layout column.0 column.1 (real_number column.1 == 247)

-- If the metadata is allowed, the numbers of the decoder's layout are in their ranges.
pub sound_decoder : (t : ColumnType) (m : ℕ) → m < 65536 → is_metadata t m ≡ true → IsLayout (layout_in (decoder_of (t, m)))
sound_decoder t m less h = rw (decoder_has_layout (t, m)) (sound_layout t m less h)
