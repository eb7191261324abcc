-- What the fields of the optional metadata state of columns.
-- Source: MySQL's documentation of its source code, `mysql::binlog::event::Table_map_event`.
use Rattle.std.specs.Prelude.{◌≡◌, ℕ, ◌<◌, ◌==◌, ◌&&◌, Bool, false, List, [], nat_lt, length, take, reverse, slice_get, slice_index_or, Option, None, Some, option_map, unwrap_or, if◌then◌else◌}
use Rattle.std.specs.List.{find}
use Rattle.std.specs.Option.{option_and_then, option_or}
use Rattle.std.specs.Str.{is_utf8}
use Rattle.character_sets.specs.Collations.{set_of_collation_in}
use Rattle.character_sets.specs.declared.character_set.CharacterSet.{CharacterSet}
use Rattle.binlog_columns.specs.Metadata.{Typed, real_number, string_length}
use Rattle.binlog_columns.specs.RealTypes.{real_type}
use Rattle.binlog_columns.specs.declared.column_type.ColumnType.{ColumnType}
use Rattle.binlog_columns.specs.declared.column_type.ColumnType.TheVariants.{MYSQL_TYPE_NULL, MYSQL_TYPE_STRING}
use Rattle.binlog_optional_metadata.specs.Bits.{first_bit_in}
use Rattle.binlog_optional_metadata.specs.Classes.{is_in_class, character_class, class_count}
use Rattle.binlog_optional_metadata.specs.Counts.{counts_of}
use Rattle.binlog_optional_metadata.specs.Fields.{Content, bits, numbers, charsets, names_in, lists_in}
use Rattle.binlog_optional_metadata.specs.declared.column_class.ColumnClass.{ColumnClass}
use Rattle.binlog_optional_metadata.specs.declared.column_class.ColumnClass.TheVariants.{Numeric, Enum, Set, EnumOrSet}
use Rattle.binlog_optional_metadata.specs.Facts.{Facts, is_binary, facts_of}
use Rattle.binlog_optional_metadata.specs.AllFields.{AreFields, contents_of, first_refusal, states_signedness, states_collations, states_member_collations, states_names, states_enums, states_sets, last_field}
use Rattle.binlog_optional_metadata.specs.declared.column_facts.ColumnFacts.{ColumnFacts}
use Rattle.binlog_optional_metadata.specs.FieldsLeft.{FieldContent}
use Rattle.binlog_optional_metadata.specs.declared.metadata_error.OptionalMetadataError.{OptionalMetadataError}

-- ---- the fields that count

-- Of each kind the field that counts.
pub record Stated : Type 0 where
  pub signedness : Option Content
  pub collations : Option Content
  pub member_collations : Option Content
  pub names : Option Content
  pub enums : Option Content
  pub sets : Option Content

-- The last fields of these.
abbrev pub stated_in : List Content → Stated
stated_in fields = record {
  signedness = last_field states_signedness fields;
  collations = last_field states_collations fields;
  member_collations = last_field states_member_collations fields;
  names = last_field states_names fields;
  enums = last_field states_enums fields;
  sets = last_field states_sets fields;
}

-- ---- what they state

-- The bit of the column with this index in its class.
abbrev pub is_set_in : Option Content → ℕ → Bool
is_set_in (Some (bits type len s)) index = unwrap_or (first_bit_in len s index) false
is_set_in _ index = false

-- The collation that the last pair with this index states, else the default.
abbrev pub collation_or_default : ℕ × List (ℕ × ℕ) → ℕ → ℕ
collation_or_default sets index = unwrap_or (option_map (λ pair. pair.1) (find (λ pair. pair.0 == index) (reverse sets.1))) sets.0

-- The collation of the column with this index in its class.
abbrev pub collation_in : Content → ℕ → ℕ
collation_in (charsets type sets) index = collation_or_default sets index
collation_in (numbers type collations) index = slice_index_or collations index 0
collation_in _ index = 0

-- The character set of a collation, by its number, which has 16 bits, and by the server that wrote the log.
unfoldable pub set_numbered : Bool → ℕ → Option CharacterSet
set_numbered is_maria_log number = if nat_lt number 0x1_0000 then set_of_collation_in is_maria_log number else None

-- The character set of the column with this index in its class.
abbrev pub set_stated : Bool → Option Content → ℕ → Option CharacterSet
set_stated is_maria_log None index = None
set_stated is_maria_log (Some field) index = set_numbered is_maria_log (collation_in field index)

-- The names of the columns.
abbrev pub names_stated : Option Content → List (List ℕ)
names_stated None = []
names_stated (Some field) = names_in field

-- Bytes as a text, if they are one.
abbrev pub text_of : List ℕ → Option (List ℕ)
text_of s = if is_utf8 s then Some s else None

-- The members of each column of a class.
abbrev pub lists_stated : Option Content → List (List (List ℕ))
lists_stated None = []
lists_stated (Some field) = lists_in field

-- ---- columns

-- The character set of a column, by the collations of the columns of this class; None if it isn't in the class.
abbrev pub class_set : ColumnClass → Bool → Option Content → List Typed → Typed → Option CharacterSet
class_set class is_maria_log collations before column =
    if is_in_class class (real_type column) then set_stated is_maria_log collations (class_count class before) else None

-- The character set of a column: of a column of characters, or of an ENUM or a SET.
abbrev pub set_behind : Bool → Stated → List Typed → Typed → Option CharacterSet
set_behind is_maria_log stated before column =
    option_or (class_set (character_class is_maria_log) is_maria_log stated.collations before column)
    (class_set EnumOrSet is_maria_log stated.member_collations before column)

-- The length of a STRING whose real type is STRING; 0 for any other column.
abbrev pub string_length_as : ColumnType → ℕ → ℕ
string_length_as MYSQL_TYPE_STRING metadata = if real_number metadata == 254 then string_length metadata else 0
string_length_as _ metadata = 0

-- The length to which the values of a column are padded with zeros: that of a BINARY.
abbrev pub padded_length : Option CharacterSet → Typed → ℕ
padded_length set column = if is_binary set then string_length_as column.0 column.1 else 0

-- The members of a column of this real type: those of the ENUM or the SET with its index in its class.
abbrev pub members_in : ColumnType → Option (List (List ℕ)) → Option (List (List ℕ)) → Option (List (List ℕ))
members_in real_type enumeration set = if is_in_class Enum real_type then enumeration else if is_in_class Set real_type then set else None

-- What is stated of a column, behind these columns of its table: how many of these are in its class is its index there.
abbrev pub facts_behind : Bool → Stated → List Typed → Typed → Facts
facts_behind is_maria_log stated before column = record {
  name = option_and_then text_of (slice_get (names_stated stated.names) (length before));
  is_unsigned = is_in_class Numeric (real_type column) && is_set_in stated.signedness (class_count Numeric before);
  character_set = set_behind is_maria_log stated before column;
  padded_length = padded_length (set_behind is_maria_log stated before column) column;
  members = members_in (real_type column) (slice_get (lists_stated stated.enums) (class_count Enum before)) (slice_get (lists_stated stated.sets) (class_count Set before));
}

-- What is stated of the column with this index.
abbrev pub facts_at : Bool → Stated → List Typed → ℕ → Facts
facts_at is_maria_log stated columns index = facts_behind is_maria_log stated (take index columns) (slice_index_or columns index (MYSQL_TYPE_NULL, 0))

-- These are the facts of columns whose table map has this optional metadata, in order, and why the first field is refused
-- that is. The fields that are read state the facts.
pub record StatesFacts (is_maria_log : Bool) (columns : List Typed) (s : List ℕ) (facts : List ColumnFacts) (refusal : Option OptionalMetadataError) : Type 0 where
  pub fields : List FieldContent
  pub are : AreFields (counts_of is_maria_log columns) s fields
  pub refused : refusal ≡ first_refusal fields
  pub count : length facts ≡ length columns
  pub each : (index : ℕ) (none : ColumnFacts) → index < length columns
      → facts_of (slice_index_or facts index none) ≡ facts_at is_maria_log (stated_in (contents_of fields)) columns index
