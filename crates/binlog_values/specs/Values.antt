-- Values as contracts see them: their contents, and what they mean.
use Rattle.std.specs.Prelude.{ℕ, ◌==◌, Result, Ok, Err, if◌then◌else◌}
use Rattle.binlog_wire.specs.declared.error.Error.{Error}
use Rattle.binlog_columns.specs.Metadata.{Typed, real_number}
use Rattle.binlog_columns.specs.Layouts.{layout_of}
use Rattle.binlog_columns.specs.declared.decoder.Decoder.{Decoder}
use Rattle.binlog_columns.specs.declared.decoder.Decoder.TheVariants as decoders
use Rattle.binlog_columns.specs.declared.layout.Layout.{Layout}
use Rattle.binlog_columns.specs.declared.layout.Layout.TheVariants as layouts
use Rattle.binlog_columns.specs.declared.column_type.ColumnType.{ColumnType}
use Rattle.binlog_columns.specs.declared.column_type.ColumnType.TheVariants.{MYSQL_TYPE_FLOAT, MYSQL_TYPE_DOUBLE, MYSQL_TYPE_TIMESTAMP, MYSQL_TYPE_DATE, MYSQL_TYPE_TIME, MYSQL_TYPE_DATETIME, MYSQL_TYPE_YEAR, MYSQL_TYPE_NEWDATE, MYSQL_TYPE_BLOB_COMPRESSED, MYSQL_TYPE_VARCHAR_COMPRESSED, MYSQL_TYPE_JSON, MYSQL_TYPE_ENUM, MYSQL_TYPE_SET, MYSQL_TYPE_STRING, MYSQL_TYPE_GEOMETRY}
use Rattle.binlog_values.specs.Contents.{Content, nothing, of_number, of_bytes}
use Rattle.binlog_values.specs.declared.fault.ValueFault.{ValueFault}
use Rattle.binlog_values.specs.declared.value.Value.{Value}
use Rattle.binlog_values.specs.declared.value.Value.TheVariants as values

-- The content of a value.
abbrev pub content_of : Value → Content
content_of values.Null = nothing
content_of (values.Integer i) = of_number i.bits
content_of (values.Float f) = of_number f.bits
content_of (values.Double f) = of_number f.bits
content_of (values.Decimal d) = of_bytes d.bytes.now
content_of (values.Date d) = of_number d.bits
content_of (values.Year y) = of_number y.byte
content_of (values.Timestamp seconds) = of_number seconds
content_of (values.Time t) = of_number t.bits
content_of (values.DateTime t) = of_number t.digits
content_of (values.Timestamp2 t) = of_number t.number
content_of (values.DateTime2 t) = of_number t.number
content_of (values.Time2 t) = of_number t.number
content_of (values.Bit b) = of_number b.bits
content_of (values.Enum index) = of_number index
content_of (values.Set members) = of_number members
content_of (values.Bytes s) = of_bytes s.now
content_of (values.Json s) = of_bytes s.now
content_of (values.Geometry s) = of_bytes s.now
content_of (values.Vector s) = of_bytes s.now
content_of (values.Compressed s) = of_bytes s.now

-- The result of a call, with the content of its value.
abbrev pub answer_content : Result Value Error → Result Content Error
answer_content (Ok value) = Ok (content_of value)
answer_content (Err e) = Err e

-- The same, where a fault is given in place of an error.
abbrev pub decoded_content : Result Value ValueFault → Result Content ValueFault
decoded_content (Ok value) = Ok (content_of value)
decoded_content (Err fault) = Err fault

-- What a value means: its type, and the numbers that the column's metadata states for it.
pub data Meaning : Type 0 where
  null : Meaning
  integer : ℕ → Meaning
  float : Meaning
  double : Meaning
  decimal : ℕ → ℕ → Meaning
  date : Meaning
  year : Meaning
  timestamp : Meaning
  time : Meaning
  datetime : Meaning
  timestamp2 : ℕ → Meaning
  datetime2 : ℕ → Meaning
  time2 : ℕ → Meaning
  bit : ℕ → Meaning
  enumeration : Meaning
  members : Meaning
  string : Meaning
  json : Meaning
  geometry : Meaning
  vector : Meaning
  compressed : Meaning

-- The meaning of a value.
abbrev pub meaning_of : Value → Meaning
meaning_of values.Null = null
meaning_of (values.Integer i) = integer i.size
meaning_of (values.Float f) = float
meaning_of (values.Double f) = double
meaning_of (values.Decimal d) = decimal d.precision d.scale
meaning_of (values.Date d) = date
meaning_of (values.Year y) = year
meaning_of (values.Timestamp seconds) = timestamp
meaning_of (values.Time t) = time
meaning_of (values.DateTime t) = datetime
meaning_of (values.Timestamp2 t) = timestamp2 t.digits
meaning_of (values.DateTime2 t) = datetime2 t.digits
meaning_of (values.Time2 t) = time2 t.digits
meaning_of (values.Bit b) = bit b.count
meaning_of (values.Enum index) = enumeration
meaning_of (values.Set ones) = members
meaning_of (values.Bytes s) = string
meaning_of (values.Json s) = json
meaning_of (values.Geometry s) = geometry
meaning_of (values.Vector s) = vector
meaning_of (values.Compressed s) = compressed

-- The meaning of a STRING, an ENUM or a SET that is encoded as a number: an ENUM or a SET.
abbrev pub listed : ℕ → Meaning
listed metadata = if real_number metadata == 247 then enumeration else members

-- The meaning of a number of this many bytes, in a column of this type and metadata.
abbrev pub number_meaning : ℕ → ColumnType → ℕ → Meaning
number_meaning len MYSQL_TYPE_FLOAT metadata = float
number_meaning len MYSQL_TYPE_DOUBLE metadata = double
number_meaning len MYSQL_TYPE_DATE metadata = date
number_meaning len MYSQL_TYPE_NEWDATE metadata = date
number_meaning len MYSQL_TYPE_YEAR metadata = year
number_meaning len MYSQL_TYPE_TIMESTAMP metadata = timestamp
number_meaning len MYSQL_TYPE_TIME metadata = time
number_meaning len MYSQL_TYPE_DATETIME metadata = datetime
number_meaning len MYSQL_TYPE_STRING metadata = listed metadata
number_meaning len MYSQL_TYPE_ENUM metadata = listed metadata
number_meaning len MYSQL_TYPE_SET metadata = listed metadata
number_meaning len _ metadata = integer len

-- The meaning of bytes in a column of this type.
abbrev pub bytes_meaning : ColumnType → Meaning
bytes_meaning MYSQL_TYPE_JSON = json
bytes_meaning MYSQL_TYPE_GEOMETRY = geometry
bytes_meaning MYSQL_TYPE_BLOB_COMPRESSED = compressed
bytes_meaning MYSQL_TYPE_VARCHAR_COMPRESSED = compressed
bytes_meaning _ = string

-- The meaning of the values of a layout, in a column of this type and metadata.
abbrev pub meaning_by : Layout → ColumnType → ℕ → Meaning
meaning_by layouts.Nothing column_type metadata = null
meaning_by (layouts.Number len) column_type metadata = number_meaning len column_type metadata
meaning_by (layouts.Bits count) column_type metadata = bit count
meaning_by (layouts.Timestamp2 digits) column_type metadata = timestamp2 digits
meaning_by (layouts.DateTime2 digits) column_type metadata = datetime2 digits
meaning_by (layouts.Time2 digits) column_type metadata = time2 digits
meaning_by (layouts.Decimal precision scale) column_type metadata = decimal precision scale
meaning_by (layouts.Counted prefix max) column_type metadata = bytes_meaning column_type
meaning_by (layouts.Vector prefix) column_type metadata = vector

-- The meaning of the values of a column.
abbrev pub meaning_in : Typed → Meaning
meaning_in column = meaning_by (layout_of column) column.0 column.1

-- The meaning of the values that a decoder reads.
abbrev pub decoded_meaning : Decoder → Meaning
decoded_meaning decoders.Nothing = null
decoded_meaning (decoders.Integer size) = integer size
decoded_meaning decoders.Float = float
decoded_meaning decoders.Double = double
decoded_meaning decoders.Date = date
decoded_meaning decoders.Year = year
decoded_meaning decoders.Timestamp = timestamp
decoded_meaning decoders.Time = time
decoded_meaning decoders.DateTime = datetime
decoded_meaning (decoders.Enum size) = enumeration
decoded_meaning (decoders.Set size) = members
decoded_meaning (decoders.Bits count) = bit count
decoded_meaning (decoders.Timestamp2 digits) = timestamp2 digits
decoded_meaning (decoders.DateTime2 digits) = datetime2 digits
decoded_meaning (decoders.Time2 digits) = time2 digits
decoded_meaning (decoders.Decimal precision scale) = decimal precision scale
decoded_meaning (decoders.Bytes prefix max) = string
decoded_meaning (decoders.Json prefix max) = json
decoded_meaning (decoders.Geometry prefix max) = geometry
decoded_meaning (decoders.Compressed prefix max) = compressed
decoded_meaning (decoders.Vector prefix) = vector
