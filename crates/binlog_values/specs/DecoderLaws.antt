-- What a column's decoder reads means what the column's values mean.
use Rattle.std.proofs.Common.{◌≡◌, ℕ, Bool, true, false, cond, refl}
use Rattle.std.specs.Prelude.{◌==◌}
use Rattle.binlog_columns.specs.Metadata.{Typed, real_number}
use Rattle.binlog_columns.specs.Layouts.{layout_of}
use Rattle.binlog_columns.specs.Decoders.{listed_decoder, number_decoder, bytes_decoder, decoder_by, decoder_of}
use Rattle.binlog_columns.specs.declared.column_type.ColumnType.{ColumnType}
use Rattle.binlog_columns.specs.declared.column_type.ColumnType.TheVariants.{MYSQL_TYPE_TINY, MYSQL_TYPE_SHORT, MYSQL_TYPE_LONG, MYSQL_TYPE_FLOAT, MYSQL_TYPE_DOUBLE, MYSQL_TYPE_NULL, MYSQL_TYPE_TIMESTAMP, MYSQL_TYPE_LONGLONG, MYSQL_TYPE_INT24, MYSQL_TYPE_DATE, MYSQL_TYPE_TIME, MYSQL_TYPE_DATETIME, MYSQL_TYPE_YEAR, MYSQL_TYPE_NEWDATE, MYSQL_TYPE_VARCHAR, MYSQL_TYPE_BIT, MYSQL_TYPE_TIMESTAMP2, MYSQL_TYPE_DATETIME2, MYSQL_TYPE_TIME2, MYSQL_TYPE_BLOB_COMPRESSED, MYSQL_TYPE_VARCHAR_COMPRESSED, MYSQL_TYPE_VECTOR, MYSQL_TYPE_JSON, MYSQL_TYPE_NEWDECIMAL, MYSQL_TYPE_ENUM, MYSQL_TYPE_SET, MYSQL_TYPE_TINY_BLOB, MYSQL_TYPE_MEDIUM_BLOB, MYSQL_TYPE_LONG_BLOB, MYSQL_TYPE_BLOB, MYSQL_TYPE_VAR_STRING, MYSQL_TYPE_STRING, MYSQL_TYPE_GEOMETRY}
use Rattle.binlog_columns.specs.declared.decoder.Decoder.{Decoder}
use Rattle.binlog_columns.specs.declared.layout.Layout.{Layout}
use Rattle.binlog_columns.specs.declared.layout.Layout.TheVariants as layouts
use Rattle.binlog_values.specs.Values.{enumeration, members, number_meaning, bytes_meaning, meaning_by, meaning_in, decoded_meaning}

listed_means : (states_enum : Bool) (len : ℕ) → cond states_enum enumeration members ≡ decoded_meaning (listed_decoder states_enum len)
listed_means true len = refl
listed_means false len = refl

number_means : (len : ℕ) (t : ColumnType) (m : ℕ) → number_meaning len t m ≡ decoded_meaning (number_decoder t (real_number m == 247) len)
number_means len MYSQL_TYPE_TINY m = refl
number_means len MYSQL_TYPE_SHORT m = refl
number_means len MYSQL_TYPE_LONG m = refl
number_means len MYSQL_TYPE_FLOAT m = refl
number_means len MYSQL_TYPE_DOUBLE m = refl
number_means len MYSQL_TYPE_NULL m = refl
number_means len MYSQL_TYPE_TIMESTAMP m = refl
number_means len MYSQL_TYPE_LONGLONG m = refl
number_means len MYSQL_TYPE_INT24 m = refl
number_means len MYSQL_TYPE_DATE m = refl
number_means len MYSQL_TYPE_TIME m = refl
number_means len MYSQL_TYPE_DATETIME m = refl
number_means len MYSQL_TYPE_YEAR m = refl
number_means len MYSQL_TYPE_NEWDATE m = refl
number_means len MYSQL_TYPE_VARCHAR m = refl
number_means len MYSQL_TYPE_BIT m = refl
number_means len MYSQL_TYPE_TIMESTAMP2 m = refl
number_means len MYSQL_TYPE_DATETIME2 m = refl
number_means len MYSQL_TYPE_TIME2 m = refl
number_means len MYSQL_TYPE_BLOB_COMPRESSED m = refl
number_means len MYSQL_TYPE_VARCHAR_COMPRESSED m = refl
number_means len MYSQL_TYPE_VECTOR m = refl
number_means len MYSQL_TYPE_JSON m = refl
number_means len MYSQL_TYPE_NEWDECIMAL m = refl
number_means len MYSQL_TYPE_ENUM m = listed_means (real_number m == 247) len
number_means len MYSQL_TYPE_SET m = listed_means (real_number m == 247) len
number_means len MYSQL_TYPE_TINY_BLOB m = refl
number_means len MYSQL_TYPE_MEDIUM_BLOB m = refl
number_means len MYSQL_TYPE_LONG_BLOB m = refl
number_means len MYSQL_TYPE_BLOB m = refl
number_means len MYSQL_TYPE_VAR_STRING m = refl
number_means len MYSQL_TYPE_STRING m = listed_means (real_number m == 247) len
number_means len MYSQL_TYPE_GEOMETRY m = refl

bytes_mean : (t : ColumnType) (prefix max : ℕ) → bytes_meaning t ≡ decoded_meaning (bytes_decoder t prefix max)
bytes_mean MYSQL_TYPE_TINY prefix max = refl
bytes_mean MYSQL_TYPE_SHORT prefix max = refl
bytes_mean MYSQL_TYPE_LONG prefix max = refl
bytes_mean MYSQL_TYPE_FLOAT prefix max = refl
bytes_mean MYSQL_TYPE_DOUBLE prefix max = refl
bytes_mean MYSQL_TYPE_NULL prefix max = refl
bytes_mean MYSQL_TYPE_TIMESTAMP prefix max = refl
bytes_mean MYSQL_TYPE_LONGLONG prefix max = refl
bytes_mean MYSQL_TYPE_INT24 prefix max = refl
bytes_mean MYSQL_TYPE_DATE prefix max = refl
bytes_mean MYSQL_TYPE_TIME prefix max = refl
bytes_mean MYSQL_TYPE_DATETIME prefix max = refl
bytes_mean MYSQL_TYPE_YEAR prefix max = refl
bytes_mean MYSQL_TYPE_NEWDATE prefix max = refl
bytes_mean MYSQL_TYPE_VARCHAR prefix max = refl
bytes_mean MYSQL_TYPE_BIT prefix max = refl
bytes_mean MYSQL_TYPE_TIMESTAMP2 prefix max = refl
bytes_mean MYSQL_TYPE_DATETIME2 prefix max = refl
bytes_mean MYSQL_TYPE_TIME2 prefix max = refl
bytes_mean MYSQL_TYPE_BLOB_COMPRESSED prefix max = refl
bytes_mean MYSQL_TYPE_VARCHAR_COMPRESSED prefix max = refl
bytes_mean MYSQL_TYPE_VECTOR prefix max = refl
bytes_mean MYSQL_TYPE_JSON prefix max = refl
bytes_mean MYSQL_TYPE_NEWDECIMAL prefix max = refl
bytes_mean MYSQL_TYPE_ENUM prefix max = refl
bytes_mean MYSQL_TYPE_SET prefix max = refl
bytes_mean MYSQL_TYPE_TINY_BLOB prefix max = refl
bytes_mean MYSQL_TYPE_MEDIUM_BLOB prefix max = refl
bytes_mean MYSQL_TYPE_LONG_BLOB prefix max = refl
bytes_mean MYSQL_TYPE_BLOB prefix max = refl
bytes_mean MYSQL_TYPE_VAR_STRING prefix max = refl
bytes_mean MYSQL_TYPE_STRING prefix max = refl
bytes_mean MYSQL_TYPE_GEOMETRY prefix max = refl

means_by : (l : Layout) (t : ColumnType) (m : ℕ) → meaning_by l t m ≡ decoded_meaning (decoder_by t (real_number m == 247) l)
means_by layouts.Nothing t m = refl
means_by (layouts.Number len) t m = number_means len t m
means_by (layouts.Bits count) t m = refl
means_by (layouts.Timestamp2 digits) t m = refl
means_by (layouts.DateTime2 digits) t m = refl
means_by (layouts.Time2 digits) t m = refl
means_by (layouts.Decimal precision scale) t m = refl
means_by (layouts.Counted prefix max) t m = bytes_mean t prefix max
means_by (layouts.Vector prefix) t m = refl

-- The law.
pub decoder_means : (column : Typed) (decoder : Decoder) → decoder ≡ decoder_of column → meaning_in column ≡ decoded_meaning decoder
decoder_means column decoder same = rw same (means_by (layout_of column) column.0 column.1)
