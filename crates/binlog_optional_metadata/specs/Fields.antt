-- The fields of the optional metadata: a type, and a content after its length-encoded length.
-- Source: MySQL's documentation of its source code, `mysql::binlog::event::Table_map_event::Optional_metadata_fields`.
use Rattle.std.specs.Prelude.{ℕ, List, [], Result, Ok, Err, refl}
use Rattle.binlog_wire.specs.Bits.{bytes_of_bits}
use Rattle.binlog_wire.specs.Formats.{Format, anywhere, last, number, block, rest, made, ◌⨾◌}
use Rattle.binlog_variable_fields.specs.Formats.{lenenc, times}
use Rattle.binlog_variable_fields.specs.LenEncTexts.{lenenc_text}
use Rattle.binlog_optional_metadata.specs.Columns.{column_indexes, indexed_numbers, default_and_others}
use Rattle.binlog_optional_metadata.specs.FieldTypes.{field_type_of}
use Rattle.binlog_optional_metadata.specs.Lists.{text_list}
use Rattle.binlog_optional_metadata.specs.declared.class_counts.ClassCounts.{ClassCounts}
use Rattle.binlog_optional_metadata.specs.declared.field_type.OptionalMetadataFieldType.{OptionalMetadataFieldType}
use Rattle.binlog_optional_metadata.specs.declared.field_type.OptionalMetadataFieldType.TheVariants.{SIGNEDNESS, DEFAULT_CHARSET, COLUMN_CHARSET, COLUMN_NAME, SET_STR_VALUE, ENUM_STR_VALUE, GEOMETRY_TYPE, SIMPLE_PRIMARY_KEY, PRIMARY_KEY_WITH_PREFIX, ENUM_AND_SET_DEFAULT_CHARSET, ENUM_AND_SET_COLUMN_CHARSET, COLUMN_VISIBILITY, VECTOR_DIMENSIONALITY}
use Rattle.binlog_optional_metadata.specs.declared.field_type.UnknownOptionalMetadataFieldType.{UnknownOptionalMetadataFieldType}

-- A field: its type and its content.
pub data Content : Type 0 where
  -- A bit for each column of a class: the number of columns, and the bytes.
  bits : OptionalMetadataFieldType → ℕ → List ℕ → Content
  -- A number for each column of a class, or the indexes of columns.
  numbers : OptionalMetadataFieldType → List ℕ → Content
  -- A name for each column.
  names : OptionalMetadataFieldType → List (List ℕ) → Content
  -- The indexes of columns, each with a number.
  indexed : OptionalMetadataFieldType → List (ℕ × ℕ) → Content
  -- The collation of the columns of a class, and the columns with others.
  charsets : OptionalMetadataFieldType → ℕ × List (ℕ × ℕ) → Content
  -- A list of members for each column of a class.
  lists : OptionalMetadataFieldType → List (List (List ℕ)) → Content
  -- The number and the bytes of a field of a type that isn't known.
  unknown : ℕ → List ℕ → Content

abbrev pub bits_in : Content → List ℕ
bits_in (bits type len s) = s
bits_in _ = []

abbrev pub numbers_in : Content → List ℕ
numbers_in (numbers type ns) = ns
numbers_in _ = []

abbrev pub names_in : Content → List (List ℕ)
names_in (names type ns) = ns
names_in _ = []

abbrev pub indexed_in : Content → List (ℕ × ℕ)
indexed_in (indexed type ns) = ns
indexed_in _ = []

abbrev pub charsets_in : Content → ℕ × List (ℕ × ℕ)
charsets_in (charsets type ns) = ns
charsets_in _ = (0, [])

abbrev pub lists_in : Content → List (List (List ℕ))
lists_in (lists type ls) = ls
lists_in _ = []

abbrev pub unknown_in : Content → List ℕ
unknown_in (unknown number s) = s
unknown_in _ = []

-- A bit for each of this many columns, the first in the most significant bit of the first byte.
abbrev pub bits_for : OptionalMetadataFieldType → ℕ → Format last Content
bits_for type len = made {A = List ℕ} (λ s. bits type len s) bits_in (block (bytes_of_bits len)) (λ s x r h. refl) (λ _. refl)

-- A number for each of this many columns.
abbrev pub numbers_for : OptionalMetadataFieldType → ℕ → Format last Content
numbers_for type len = made {A = List ℕ} (λ ns. numbers type ns) numbers_in (times len lenenc) (λ s x r h. refl) (λ _. refl)

-- A name for each of this many columns.
abbrev pub names_for : OptionalMetadataFieldType → ℕ → Format last Content
names_for type len = made {A = List (List ℕ)} (λ ns. names type ns) names_in (times len lenenc_text) (λ s x r h. refl) (λ _. refl)

-- Indexes of this many columns.
abbrev pub indexes_for : OptionalMetadataFieldType → ℕ → Format last Content
indexes_for type len = made {A = List ℕ} (λ ns. numbers type ns) numbers_in (column_indexes len) (λ s x r h. refl) (λ _. refl)

-- Indexes of this many columns, each with a number.
abbrev pub indexed_for : OptionalMetadataFieldType → ℕ → Format last Content
indexed_for type len = made {A = List (ℕ × ℕ)} (λ ns. indexed type ns) indexed_in (indexed_numbers len) (λ s x r h. refl) (λ _. refl)

-- The collation of this many columns, and the columns with others.
abbrev pub charsets_for : OptionalMetadataFieldType → ℕ → Format last Content
charsets_for type len = made {A = ℕ × List (ℕ × ℕ)} (λ ns. charsets type ns) charsets_in (default_and_others len) (λ s x r h. refl) (λ _. refl)

-- A list of members for each of this many columns.
abbrev pub lists_for : OptionalMetadataFieldType → ℕ → Format last Content
lists_for type len = made {A = List (List (List ℕ))} (λ ls. lists type ls) lists_in (times len text_list) (λ s x r h. refl) (λ _. refl)

-- All bytes that are left, of a field of a type that isn't known.
abbrev pub unknown_bytes : ℕ → Format last Content
unknown_bytes number = made {A = List ℕ} (λ s. unknown number s) unknown_in rest (λ s x r h. refl) (λ _. refl)

-- The format of the content of a field of this type, for these numbers of columns.
abbrev pub known_content : ClassCounts → OptionalMetadataFieldType → Format last Content
known_content counts SIGNEDNESS = bits_for SIGNEDNESS counts.numeric
known_content counts DEFAULT_CHARSET = charsets_for DEFAULT_CHARSET counts.character
known_content counts COLUMN_CHARSET = numbers_for COLUMN_CHARSET counts.character
known_content counts COLUMN_NAME = names_for COLUMN_NAME counts.columns
known_content counts SET_STR_VALUE = lists_for SET_STR_VALUE counts.sets
known_content counts ENUM_STR_VALUE = lists_for ENUM_STR_VALUE counts.enums
known_content counts GEOMETRY_TYPE = numbers_for GEOMETRY_TYPE counts.geometries
known_content counts SIMPLE_PRIMARY_KEY = indexes_for SIMPLE_PRIMARY_KEY counts.columns
known_content counts PRIMARY_KEY_WITH_PREFIX = indexed_for PRIMARY_KEY_WITH_PREFIX counts.columns
known_content counts ENUM_AND_SET_DEFAULT_CHARSET = charsets_for ENUM_AND_SET_DEFAULT_CHARSET counts.listed
known_content counts ENUM_AND_SET_COLUMN_CHARSET = numbers_for ENUM_AND_SET_COLUMN_CHARSET counts.listed
known_content counts COLUMN_VISIBILITY = bits_for COLUMN_VISIBILITY counts.columns
known_content counts VECTOR_DIMENSIONALITY = numbers_for VECTOR_DIMENSIONALITY counts.vectors

-- The same, of a field that may be of another type.
abbrev pub content_as : ClassCounts → Result OptionalMetadataFieldType UnknownOptionalMetadataFieldType → Format last Content
content_as counts (Ok field_type) = known_content counts field_type
content_as counts (Err other) = unknown_bytes other.0

-- The same, by the type's number.
abbrev pub content : ClassCounts → ℕ → Format last Content
content counts number = content_as counts (field_type_of number)

-- A field: its type, and its content after its length.
abbrev pub field : Format anywhere (ℕ × List ℕ)
field = number 1 ⨾ lenenc_text
