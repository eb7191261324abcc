-- Fields as contracts see them.
use Rattle.std.specs.Prelude.{Result, Ok, Err}
use Rattle.binlog_wire.specs.declared.error.Error.{Error}
use Rattle.binlog_optional_metadata.specs.DefaultCharsets.{charsets_of}
use Rattle.binlog_optional_metadata.specs.Fields.{Content, bits, numbers, names, indexed, charsets, lists, unknown}
use Rattle.binlog_optional_metadata.specs.IndexedNumbers.{indexed_of}
use Rattle.binlog_optional_metadata.specs.MemberLists.{lists_of}
use Rattle.binlog_optional_metadata.specs.Numbers.{numbers_of}
use Rattle.binlog_optional_metadata.specs.Names.{names_of}
use Rattle.binlog_optional_metadata.specs.declared.field.OptionalMetadataField.{OptionalMetadataField}
use Rattle.binlog_optional_metadata.specs.declared.field.OptionalMetadataField.TheVariants as fields
use Rattle.binlog_optional_metadata.specs.declared.field_type.OptionalMetadataFieldType.{OptionalMetadataFieldType}
use Rattle.binlog_optional_metadata.specs.declared.field_type.OptionalMetadataFieldType.TheVariants.{SIGNEDNESS, DEFAULT_CHARSET, COLUMN_CHARSET, COLUMN_NAME, SET_STR_VALUE, ENUM_STR_VALUE, GEOMETRY_TYPE, SIMPLE_PRIMARY_KEY, PRIMARY_KEY_WITH_PREFIX, ENUM_AND_SET_DEFAULT_CHARSET, ENUM_AND_SET_COLUMN_CHARSET, COLUMN_VISIBILITY, VECTOR_DIMENSIONALITY}
use Rattle.binlog_optional_metadata.specs.declared.metadata_bits.MetadataBits.{MetadataBits}

abbrev pub bits_of : OptionalMetadataFieldType → MetadataBits → Content
bits_of type view = bits type view.len view.bytes.now

-- The type and the content of a field.
abbrev pub content_of : OptionalMetadataField → Content
content_of (fields.Signedness view) = bits_of SIGNEDNESS view
content_of (fields.DefaultCharset view) = charsets DEFAULT_CHARSET (charsets_of view)
content_of (fields.ColumnCharset collations) = numbers COLUMN_CHARSET (numbers_of collations)
content_of (fields.ColumnName columns) = names COLUMN_NAME (names_of columns)
content_of (fields.SetStrValue members) = lists SET_STR_VALUE (lists_of members)
content_of (fields.EnumStrValue members) = lists ENUM_STR_VALUE (lists_of members)
content_of (fields.GeometryType types) = numbers GEOMETRY_TYPE (numbers_of types)
content_of (fields.SimplePrimaryKey columns) = numbers SIMPLE_PRIMARY_KEY (numbers_of columns)
content_of (fields.PrimaryKeyWithPrefix prefixes) = indexed PRIMARY_KEY_WITH_PREFIX (indexed_of prefixes)
content_of (fields.EnumAndSetDefaultCharset view) = charsets ENUM_AND_SET_DEFAULT_CHARSET (charsets_of view)
content_of (fields.EnumAndSetColumnCharset collations) = numbers ENUM_AND_SET_COLUMN_CHARSET (numbers_of collations)
content_of (fields.ColumnVisibility view) = bits_of COLUMN_VISIBILITY view
content_of (fields.VectorDimensionality dimensions) = numbers VECTOR_DIMENSIONALITY (numbers_of dimensions)
content_of (fields.Other number s) = unknown number s.now

-- An answer, with the content of its field.
abbrev pub answer_content : Result OptionalMetadataField Error → Result Content Error
answer_content (Ok field) = Ok (content_of field)
answer_content (Err e) = Err e
