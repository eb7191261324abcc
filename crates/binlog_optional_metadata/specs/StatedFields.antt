-- The fields that count, as contracts see them.
use Rattle.std.specs.Prelude.{◌≡◌, ℕ, Bool, List, [], Option, Some, None, Ok, Err, option_map, if◌then◌else◌}
use Rattle.binlog_optional_metadata.specs.DefaultCharsets.{charsets_of}
use Rattle.binlog_optional_metadata.specs.Fields.{Content, numbers, names, charsets, lists}
use Rattle.binlog_optional_metadata.specs.FieldValues.{bits_of}
use Rattle.binlog_optional_metadata.specs.MemberLists.{lists_of}
use Rattle.binlog_optional_metadata.specs.Names.{names_of}
use Rattle.binlog_optional_metadata.specs.Numbers.{numbers_of}
use Rattle.binlog_optional_metadata.specs.declared.class_counts.ClassCounts.{ClassCounts}
use Rattle.binlog_optional_metadata.specs.declared.field_type.OptionalMetadataFieldType.TheVariants.{SIGNEDNESS, DEFAULT_CHARSET, COLUMN_CHARSET, COLUMN_NAME, SET_STR_VALUE, ENUM_STR_VALUE, ENUM_AND_SET_DEFAULT_CHARSET, ENUM_AND_SET_COLUMN_CHARSET}
use Rattle.binlog_optional_metadata.specs.declared.member_lists.MemberLists.{MemberLists}
use Rattle.binlog_optional_metadata.specs.declared.names.Names.{Names}
use Rattle.binlog_optional_metadata.specs.AllFields.{AreFields, contents_of, first_refusal, states_signedness, states_collations, states_member_collations, states_names, states_enums, states_sets}
use Rattle.binlog_optional_metadata.specs.Stated.{Stated, stated_in}
use Rattle.binlog_optional_metadata.specs.declared.collations.Collations.{Collations}
use Rattle.binlog_optional_metadata.specs.declared.collations.Collations.TheVariants as sets
use Rattle.binlog_optional_metadata.specs.declared.stated_fields.StatedFields.{StatedFields}
use Rattle.binlog_optional_metadata.specs.FieldsLeft.{FieldContent}
use Rattle.binlog_optional_metadata.specs.declared.metadata_error.OptionalMetadataError.{OptionalMetadataError}

-- The field with these collations of character columns.
abbrev pub collations_content : Collations → Content
collations_content (sets.Default view) = charsets DEFAULT_CHARSET (charsets_of view)
collations_content (sets.Each collations) = numbers COLUMN_CHARSET (numbers_of collations)

-- The field with these collations of ENUM and SET columns.
abbrev pub members_content : Collations → Content
members_content (sets.Default view) = charsets ENUM_AND_SET_DEFAULT_CHARSET (charsets_of view)
members_content (sets.Each collations) = numbers ENUM_AND_SET_COLUMN_CHARSET (numbers_of collations)

-- The fields that count.
abbrev pub stated_of : StatedFields → Stated
stated_of fields = record {
  signedness = option_map (bits_of SIGNEDNESS) fields.signedness;
  collations = option_map collations_content fields.collations;
  member_collations = option_map members_content fields.member_collations;
  names = option_map (λ columns. names COLUMN_NAME (names_of columns)) fields.names;
  enums = option_map (λ columns. lists ENUM_STR_VALUE (lists_of columns)) fields.enums;
  sets = option_map (λ columns. lists SET_STR_VALUE (lists_of columns)) fields.sets;
}

-- One more field, which counts in place of an earlier one of its kind.
abbrev pub newer : (Content → Bool) → Content → Option Content → Option Content
newer is_kind field old = if is_kind field then Some field else old

abbrev pub with_field : Stated → Content → Stated
with_field stated field = record {
  signedness = newer states_signedness field stated.signedness;
  collations = newer states_collations field stated.collations;
  member_collations = newer states_member_collations field stated.member_collations;
  names = newer states_names field stated.names;
  enums = newer states_enums field stated.enums;
  sets = newer states_sets field stated.sets;
}

-- One more field, which counts if it is read.
abbrev pub with_content : Stated → FieldContent → Stated
with_content stated (Ok field) = with_field stated field
with_content stated (Err error) = stated

-- One more field, whose refusal counts if it is the first one.
abbrev pub with_refusal : Option OptionalMetadataError → FieldContent → Option OptionalMetadataError
with_refusal refusal (Ok field) = refusal
with_refusal None (Err error) = Some error
with_refusal (Some earlier) (Err error) = Some earlier

-- The fields of the bytes that count are these, and this is why the first of them is refused that is.
pub record LeavesFields (counts : ClassCounts) (s : List ℕ) (stated : Stated) (refusal : Option OptionalMetadataError) : Type 0 where
  pub fields : List FieldContent
  pub are : AreFields counts s fields
  pub last : stated ≡ stated_in (contents_of fields)
  pub first : refusal ≡ first_refusal fields

-- The names that are left.
abbrev pub names_left : Option Names → List (List ℕ)
names_left None = []
names_left (Some columns) = names_of columns

-- The lists of members that are left.
abbrev pub lists_left : Option MemberLists → List (List (List ℕ))
lists_left None = []
lists_left (Some columns) = lists_of columns
