-- The fields of the optional metadata, as a list.
use Rattle.std.specs.Prelude.{◌≡◌, ℕ, Bool, true, false, List, [], ◌∷◌, reverse, Option, Some, None, Ok, Err}
use Rattle.std.specs.List.{find}
use Rattle.binlog_optional_metadata.specs.Fields.{Content, bits, numbers, names, charsets, lists}
use Rattle.binlog_optional_metadata.specs.FieldsLeft.{FieldContent, first_field}
use Rattle.binlog_optional_metadata.specs.declared.class_counts.ClassCounts.{ClassCounts}
use Rattle.binlog_optional_metadata.specs.declared.field_type.OptionalMetadataFieldType.TheVariants.{SIGNEDNESS, DEFAULT_CHARSET, COLUMN_CHARSET, COLUMN_NAME, SET_STR_VALUE, ENUM_STR_VALUE, ENUM_AND_SET_DEFAULT_CHARSET, ENUM_AND_SET_COLUMN_CHARSET}
use Rattle.binlog_optional_metadata.specs.declared.metadata_error.OptionalMetadataError.{OptionalMetadataError}

-- These are the fields of the bytes, one after the other to their end: of each its content, or why it is refused.
abbrev pub AreFields : ClassCounts → List ℕ → List FieldContent → Type 0
AreFields counts s [] = s ≡ []
AreFields counts s (field ∷ fields) = (¬ (s ≡ [])) × (field ≡ (first_field counts s).0) × AreFields counts (first_field counts s).1 fields

-- The contents of the fields that are read.
abbrev pub contents_of : List FieldContent → List Content
contents_of [] = []
contents_of (Ok content ∷ fields) = content ∷ contents_of fields
contents_of (Err e ∷ fields) = contents_of fields

-- Why the first field is refused that is.
abbrev pub first_refusal : List FieldContent → Option OptionalMetadataError
first_refusal [] = None
first_refusal (Ok content ∷ fields) = first_refusal fields
first_refusal (Err e ∷ fields) = Some e

-- The field states whether each numeric column is unsigned.
abbrev pub states_signedness : Content → Bool
states_signedness (bits SIGNEDNESS len s) = true
states_signedness _ = false

-- The field states the collation of each character column.
abbrev pub states_collations : Content → Bool
states_collations (charsets DEFAULT_CHARSET sets) = true
states_collations (numbers COLUMN_CHARSET collations) = true
states_collations _ = false

-- The field states the collation of each ENUM and SET column.
abbrev pub states_member_collations : Content → Bool
states_member_collations (charsets ENUM_AND_SET_DEFAULT_CHARSET sets) = true
states_member_collations (numbers ENUM_AND_SET_COLUMN_CHARSET collations) = true
states_member_collations _ = false

-- The field states the name of each column.
abbrev pub states_names : Content → Bool
states_names (names COLUMN_NAME columns) = true
states_names _ = false

-- The field states the members of each ENUM column.
abbrev pub states_enums : Content → Bool
states_enums (lists ENUM_STR_VALUE columns) = true
states_enums _ = false

-- The field states the members of each SET column.
abbrev pub states_sets : Content → Bool
states_sets (lists SET_STR_VALUE columns) = true
states_sets _ = false

-- The last field of a kind, which is the one that counts.
abbrev pub last_field : (Content → Bool) → List Content → Option Content
last_field is_kind fields = find is_kind (reverse fields)
