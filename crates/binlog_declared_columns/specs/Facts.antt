-- The facts of a column that a log and a file of columns state.
use Rattle.std.specs.Prelude.{◌≡◌, ℕ, ◌<◌, ◌==◌, ◌&&◌, ◌||◌, Bool, true, false, not, List, [], ◌∷◌, map, slice_get, bytes_eq, Option, None, Some, unwrap_or, is_some, if◌then◌else◌}
use Rattle.std.specs.Bool.{beq}
use Rattle.std.specs.List.{list_any}
use Rattle.std.specs.Option.{option_or}
use Rattle.character_sets.specs.Names.{name_of}
use Rattle.character_sets.specs.declared.character_set.CharacterSet.{CharacterSet}
use Rattle.character_sets.specs.declared.character_set.CharacterSet.TheVariants.{Binary, Utf8mb4}
use Rattle.binlog_columns.specs.Metadata.{Typed}
use Rattle.binlog_columns.specs.declared.column_type.ColumnType.{ColumnType}
use Rattle.binlog_columns.specs.declared.column_type.ColumnType.TheVariants.{MYSQL_TYPE_LONGLONG, MYSQL_TYPE_TIMESTAMP2}
use Rattle.binlog_optional_metadata.specs.Facts.{Facts, is_binary, facts_of}
use Rattle.binlog_optional_metadata.specs.declared.column_facts.ColumnFacts.{ColumnFacts}
use Rattle.column_files.specs.Tables.{Described, text_of}
use Rattle.column_files.specs.Types.{Declared, simple, enumeration, several}
use Rattle.column_files.specs.declared.simple_type.SimpleType.{SimpleType}
use Rattle.column_files.specs.declared.simple_type.SimpleType.TheVariants as types
use Rattle.binlog_declared_columns.specs.Possible.{is_possible}

-- ---- what a declared type says

-- Whether the type is that of a number without sign; None if it isn't that of a number.
abbrev pub unsigned_in_simple : SimpleType → Option Bool
unsigned_in_simple (types.Integer size is_unsigned) = Some is_unsigned
unsigned_in_simple (types.Float is_unsigned) = Some is_unsigned
unsigned_in_simple (types.Double is_unsigned) = Some is_unsigned
unsigned_in_simple (types.Decimal precision scale is_unsigned) = Some is_unsigned
unsigned_in_simple _ = None

abbrev pub unsigned_in : Declared → Option Bool
unsigned_in (simple type) = unsigned_in_simple type
unsigned_in _ = None

-- The character set of the strings, by the one that is declared; None if the column has no strings.
abbrev pub set_in_simple : SimpleType → Option CharacterSet → Option CharacterSet
set_in_simple (types.Char count) set = set
set_in_simple (types.VarChar count is_compressed) set = set
set_in_simple (types.Text size is_compressed) set = set
set_in_simple (types.Binary count) set = Some Binary
set_in_simple (types.VarBinary count is_compressed) set = Some Binary
set_in_simple (types.Blob size is_compressed) set = Some Binary
set_in_simple types.Inet4 set = Some Binary
set_in_simple types.Inet6 set = Some Binary
set_in_simple types.Uuid set = Some Binary
set_in_simple (types.Vector count) set = Some Binary
set_in_simple _ set = None

-- The character set of the strings, or of the members of an ENUM or a SET.
abbrev pub set_in : Declared → Option CharacterSet → Option CharacterSet
set_in (simple type) set = set_in_simple type set
set_in _ set = set

-- The length to which values are padded with zeros.
abbrev pub padding_in_simple : SimpleType → ℕ
padding_in_simple (types.Binary count) = count
padding_in_simple types.Inet4 = 4
padding_in_simple types.Inet6 = 16
padding_in_simple types.Uuid = 16
padding_in_simple _ = 0

abbrev pub padding_in : Declared → ℕ
padding_in (simple type) = padding_in_simple type
padding_in _ = 0

-- A text has a question mark, which servers write in the type of a column in place of each character above U+FFFF.
abbrev pub has_question_mark : List ℕ → Bool
has_question_mark text = list_any (λ (byte : ℕ). byte == 63) text

-- None of the members has a question mark, which may stand for another character: all are known.
abbrev pub are_known : List (List ℕ) → Bool
are_known members = not (list_any has_question_mark members)

-- The members, if all are known.
abbrev pub known_members : List (List ℕ) → Option (List (List ℕ))
known_members members = if are_known members then Some members else None

-- The type has members, and all are known.
abbrev pub has_members : Declared → Bool
has_members (simple type) = false
has_members (enumeration members) = are_known members
has_members (several members) = are_known members

-- The members of an ENUM or a SET, if all are known.
abbrev pub members_in : Declared → Option (List (List ℕ))
members_in (simple type) = None
members_in (enumeration members) = known_members members
members_in (several members) = known_members members

-- ---- agreement

-- What is stated of the sign agrees with what is declared.
abbrev pub agrees_sign : (states_signs is_unsigned : Bool) → Option Bool → Bool
agrees_sign false is_unsigned declared = true
agrees_sign true is_unsigned None = true
agrees_sign true is_unsigned (Some declared) = beq is_unsigned declared

-- The character set that is stated is the declared one.
abbrev pub agrees_set : Option CharacterSet → Option CharacterSet → Bool
agrees_set None declared = true
agrees_set (Some stated) None = true
agrees_set (Some stated) (Some declared) = bytes_eq (name_of stated) (name_of declared)

abbrev pub agrees_type : (states_signs : Bool) → Typed → Facts → Option CharacterSet → Option Declared → Bool
agrees_type states_signs column facts set None = false
agrees_type states_signs column facts set (Some type) =
    is_possible type set column && (agrees_sign states_signs facts.is_unsigned (unsigned_in type) && agrees_set facts.character_set (set_in type set))

-- A column of the log, of which these facts are stated, may be the declared one.
abbrev pub agrees : (states_signs : Bool) → Typed → Facts → Described → Bool
agrees states_signs column facts declared = agrees_type states_signs column facts declared.character_set declared.type

-- The type is one of the columns that MariaDB adds to a table, and that a file doesn't have: BIGINT UNSIGNED, or TIMESTAMP(6).
abbrev pub is_hidden_type : (states_signs is_unsigned : Bool) → ColumnType → ℕ → Bool
is_hidden_type states_signs is_unsigned MYSQL_TYPE_LONGLONG metadata = agrees_sign states_signs is_unsigned (Some true)
is_hidden_type states_signs is_unsigned MYSQL_TYPE_TIMESTAMP2 metadata = metadata == 6
is_hidden_type states_signs is_unsigned _ metadata = false

abbrev pub is_hidden : (states_signs : Bool) → Typed → Facts → Bool
is_hidden states_signs column facts = is_hidden_type states_signs facts.is_unsigned column.0 column.1

-- What the log has of a column, and what the file has of it. Only MariaDB's logs have columns that a file doesn't have.
abbrev pub fits : (is_maria_log states_signs : Bool) → Option Typed → Option Facts → Option Described → Bool
fits is_maria_log states_signs None facts None = true
fits is_maria_log states_signs None facts (Some declared) = false
fits is_maria_log states_signs (Some column) None declared = false
fits is_maria_log states_signs (Some column) (Some facts) None = is_maria_log && is_hidden states_signs column facts
fits is_maria_log states_signs (Some column) (Some facts) (Some declared) = agrees states_signs column facts declared

abbrev pub fits_at : (is_maria_log states_signs : Bool) → List Typed → List Facts → List Described → ℕ → Bool
fits_at is_maria_log states_signs columns facts declared index =
    fits is_maria_log states_signs (slice_get columns index) (slice_get facts index) (slice_get declared index)

-- Which column is the first that contradicts the file; None if none does.
abbrev pub IsContradiction : (is_maria_log states_signs : Bool) → List Typed → List Facts → List Described → Option ℕ → Type 0
IsContradiction is_maria_log states_signs columns facts declared None =
    (index : ℕ) → fits_at is_maria_log states_signs columns facts declared index ≡ true
IsContradiction is_maria_log states_signs columns facts declared (Some first) =
    (fits_at is_maria_log states_signs columns facts declared first ≡ false)
    × ((index : ℕ) → index < first → fits_at is_maria_log states_signs columns facts declared index ≡ true)

-- ---- facts of both

-- The character set in which a file has members: that of its text, or bytes.
abbrev pub set_of_members : Option CharacterSet → Option CharacterSet
set_of_members set = if is_binary set then set else Some Utf8mb4

-- The character set of strings and members: of members that the file has alone, that of its text; else what the log states, or else
-- what is declared.
abbrev pub set_of_both : Facts → Option CharacterSet → Declared → Option CharacterSet
set_of_both facts set type = if has_members type && not (is_some facts.members) then set_of_members set else option_or facts.character_set (set_in type set)

-- The length to which values are padded: where the log states the character set it states that, too.
abbrev pub padding_of_both : Facts → Declared → ℕ
padding_of_both facts type = if is_some facts.character_set then facts.padded_length else padding_in type

-- What the log states, and else what is declared.
abbrev pub facts_of_both : Facts → Described → Option Declared → Facts
facts_of_both facts declared None = facts
facts_of_both facts declared (Some type) = record {
  name = option_or facts.name (text_of declared.name);
  is_unsigned = facts.is_unsigned || unwrap_or (unsigned_in type) false;
  character_set = set_of_both facts declared.character_set type;
  padded_length = padding_of_both facts type;
  members = option_or facts.members (members_in type);
}

-- What the log states of columns, and else what is declared of them, in order. The last columns of the log may not be declared.
abbrev pub all_with : List Facts → List Described → List Facts
all_with [] declared = []
all_with (facts ∷ others) [] = facts ∷ others
all_with (facts ∷ others) (first ∷ declared) = facts_of_both facts first first.type ∷ all_with others declared

-- The facts of columns: those of both where none contradicts the file, and else those of the log alone.
abbrev pub facts_unless : Option ℕ → List Facts → List Described → List Facts
facts_unless None facts declared = all_with facts declared
facts_unless (Some first) facts declared = facts

-- The facts of columns as contracts see them.
abbrev pub all_facts : List ColumnFacts → List Facts
all_facts columns = map facts_of columns

-- What a log and a file state of the columns of a table.
pub record AreOfBoth (is_maria_log states_signs : Bool) (columns : List Typed) (declared : List Described) (old new : List ColumnFacts) (contradiction : Option ℕ) : Type 0 where
  pub first : IsContradiction is_maria_log states_signs columns (all_facts old) declared contradiction
  pub facts : all_facts new ≡ facts_unless contradiction (all_facts old) declared
