-- The types of the fields and their numbers.
-- Source: MySQL's documentation of its source code, `Table_map_event::Optional_metadata_field_type`.
use Rattle.std.specs.Prelude.{ℕ, List, [], ◌∷◌, Result}
use Rattle.binlog_consts.specs.Tables.{value_of}
use Rattle.binlog_optional_metadata.specs.declared.field_type.OptionalMetadataFieldType.{OptionalMetadataFieldType}
use Rattle.binlog_optional_metadata.specs.declared.field_type.OptionalMetadataFieldType.TheVariants.{SIGNEDNESS, DEFAULT_CHARSET, COLUMN_CHARSET, COLUMN_NAME, SET_STR_VALUE, ENUM_STR_VALUE, GEOMETRY_TYPE, SIMPLE_PRIMARY_KEY, PRIMARY_KEY_WITH_PREFIX, ENUM_AND_SET_DEFAULT_CHARSET, ENUM_AND_SET_COLUMN_CHARSET, COLUMN_VISIBILITY, VECTOR_DIMENSIONALITY}
use Rattle.binlog_optional_metadata.specs.declared.field_type.UnknownOptionalMetadataFieldType.{UnknownOptionalMetadataFieldType}

-- The number of a type of field.
abbrev pub field_number : OptionalMetadataFieldType → ℕ
field_number SIGNEDNESS = 1
field_number DEFAULT_CHARSET = 2
field_number COLUMN_CHARSET = 3
field_number COLUMN_NAME = 4
field_number SET_STR_VALUE = 5
field_number ENUM_STR_VALUE = 6
field_number GEOMETRY_TYPE = 7
field_number SIMPLE_PRIMARY_KEY = 8
field_number PRIMARY_KEY_WITH_PREFIX = 9
field_number ENUM_AND_SET_DEFAULT_CHARSET = 10
field_number ENUM_AND_SET_COLUMN_CHARSET = 11
field_number COLUMN_VISIBILITY = 12
field_number VECTOR_DIMENSIONALITY = 13

-- The types of fields, by their numbers.
abbrev pub field_types : List OptionalMetadataFieldType
field_types =
    SIGNEDNESS ∷ DEFAULT_CHARSET ∷ COLUMN_CHARSET ∷ COLUMN_NAME ∷ SET_STR_VALUE ∷ ENUM_STR_VALUE ∷ GEOMETRY_TYPE ∷ SIMPLE_PRIMARY_KEY ∷ PRIMARY_KEY_WITH_PREFIX ∷ ENUM_AND_SET_DEFAULT_CHARSET ∷ ENUM_AND_SET_COLUMN_CHARSET ∷ COLUMN_VISIBILITY ∷ VECTOR_DIMENSIONALITY ∷ []

-- The type of field with this number.
abbrev pub field_type_of : ℕ → Result OptionalMetadataFieldType UnknownOptionalMetadataFieldType
field_type_of = value_of field_number field_types (λ n. record { 0 = n })
