-- The words with which types begin.
use Rattle.std.specs.Prelude.{ℕ, List, Option, codes, find, bytes_eq}
use Rattle.column_files.specs.declared.type_word.Word.{Word}
use Rattle.column_files.specs.declared.type_word.Word.TheVariants.{TinyInt, SmallInt, MediumInt, Int, BigInt, Float, Double, Decimal, Bit, Year, Date, Time, DateTime, Timestamp, Char, VarChar, Binary, VarBinary, TinyText, Text, MediumText, LongText, TinyBlob, Blob, MediumBlob, LongBlob, Enum, Set, Geometry, Point, LineString, Polygon, MultiPoint, MultiLineString, MultiPolygon, GeometryCollection, GeomCollection, Json, Inet4, Inet6, Uuid, Vector}
use Rattle.column_files.specs.declared.type_word.TheConstants.{WORDS}

-- A word as a server spells it.
unfoldable pub name_of : Word → List ℕ
name_of TinyInt = codes "tinyint"
name_of SmallInt = codes "smallint"
name_of MediumInt = codes "mediumint"
name_of Int = codes "int"
name_of BigInt = codes "bigint"
name_of Float = codes "float"
name_of Double = codes "double"
name_of Decimal = codes "decimal"
name_of Bit = codes "bit"
name_of Year = codes "year"
name_of Date = codes "date"
name_of Time = codes "time"
name_of DateTime = codes "datetime"
name_of Timestamp = codes "timestamp"
name_of Char = codes "char"
name_of VarChar = codes "varchar"
name_of Binary = codes "binary"
name_of VarBinary = codes "varbinary"
name_of TinyText = codes "tinytext"
name_of Text = codes "text"
name_of MediumText = codes "mediumtext"
name_of LongText = codes "longtext"
name_of TinyBlob = codes "tinyblob"
name_of Blob = codes "blob"
name_of MediumBlob = codes "mediumblob"
name_of LongBlob = codes "longblob"
name_of Enum = codes "enum"
name_of Set = codes "set"
name_of Geometry = codes "geometry"
name_of Point = codes "point"
name_of LineString = codes "linestring"
name_of Polygon = codes "polygon"
name_of MultiPoint = codes "multipoint"
name_of MultiLineString = codes "multilinestring"
name_of MultiPolygon = codes "multipolygon"
name_of GeometryCollection = codes "geometrycollection"
name_of GeomCollection = codes "geomcollection"
name_of Json = codes "json"
name_of Inet4 = codes "inet4"
name_of Inet6 = codes "inet6"
name_of Uuid = codes "uuid"
name_of Vector = codes "vector"

-- All words.
unfoldable pub all_words : List Word
all_words = WORDS

-- The word with this name.
abbrev pub word_named : List ℕ → Option Word
word_named name = find (λ word. bytes_eq (name_of word) name) all_words
