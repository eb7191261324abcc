-- The facts of columns, one at a time.
use Rattle.std.proofs.Common.{◌≡◌, ℕ, zero, suc, ◌+◌, ◌^◌, ◌<◌, ◌≤◌, Bool, true, false, cond, List, [], ◌∷◌, ◌++◌, length, get_or, take, drop, Option, Some, None, refl, sym, ap, subst, ◌∙◌, ⊎_elim, arith}
use Rattle.std.proofs.lemmas.Bool.{cases_lt}
use Rattle.std.proofs.lemmas.List.{get_or_append_left, get_or_push, length_push, length-take-le, drop-drop}
use Rattle.std.specs.Prelude.{◌&&◌, option_map, unwrap_or, slice_get}
use Rattle.std.specs.Option.{option_and_then, option_or}
use Rattle.character_sets.specs.declared.character_set.CharacterSet.{CharacterSet}
use Rattle.binlog_columns.specs.Metadata.{Typed}
use Rattle.binlog_columns.specs.RealTypes.{real_type}
use Rattle.binlog_columns.specs.declared.column_type.ColumnType.TheVariants.{MYSQL_TYPE_NULL}
use Rattle.binlog_optional_metadata.specs.Classes.{is_in_class, character_class, class_count}
use Rattle.binlog_optional_metadata.specs.Counts.{counts_of}
use Rattle.binlog_optional_metadata.specs.FieldsLeft.{FieldContent}
use Rattle.binlog_optional_metadata.specs.declared.metadata_error.OptionalMetadataError.{OptionalMetadataError}
use Rattle.binlog_optional_metadata.specs.Fields as contents
use Rattle.binlog_optional_metadata.specs.MemberLists.{lists_of}
use Rattle.binlog_optional_metadata.specs.Names.{names_of}
use Rattle.binlog_optional_metadata.specs.declared.column_class.ColumnClass.{ColumnClass}
use Rattle.binlog_optional_metadata.specs.declared.column_class.ColumnClass.TheVariants.{Numeric, Enum, Set, EnumOrSet}
use Rattle.binlog_optional_metadata.specs.declared.field_type.OptionalMetadataFieldType.TheVariants.{COLUMN_NAME, SET_STR_VALUE, ENUM_STR_VALUE}
use Rattle.binlog_optional_metadata.specs.declared.member_lists.MemberLists.{MemberLists}
use Rattle.binlog_optional_metadata.specs.declared.names.Names.{Names}
use Rattle.binlog_optional_metadata.specs.Facts.{Facts, texts_of, facts_of}
use Rattle.binlog_optional_metadata.specs.AllFields.{AreFields, contents_of, first_refusal}
use Rattle.binlog_optional_metadata.specs.Stated.{Stated, stated_in, is_set_in, set_stated, names_stated, lists_stated, text_of, class_set, set_behind, padded_length, members_in, facts_behind, facts_at, StatesFacts}
use Rattle.binlog_optional_metadata.specs.StatedFields.{names_left, lists_left}
use Rattle.binlog_optional_metadata.specs.declared.class_index.ClassIndex.{ClassIndex}
use Rattle.binlog_optional_metadata.specs.declared.column_facts.ColumnFacts.{ColumnFacts}
use Rattle.binlog_optional_metadata.proofs.ClassCounts.{class_count_more, class_index_le}

-- The column that stands for none.
abbrev pub no_column : Typed
no_column = (MYSQL_TYPE_NULL, 0)

-- A list of members for each column of a class.
abbrev pub Lists : Type 0
Lists = List (List (List ℕ))

-- A character set for each column of a class.
abbrev pub Sets : Type 0
Sets = List (Option CharacterSet)

-- The columns of a class that were counted.
abbrev pub counted : ColumnClass → List Typed → ClassIndex
counted class before = record { class = class; next = class_count class before }

-- The facts of the first columns, and what is left.
pub record SoFar (is_maria_log : Bool) (stated : Stated) (columns : List Typed) (count : ℕ) (facts : List ColumnFacts) (numeric character listed : ClassIndex) (names : List (List ℕ)) (enums sets : Lists) : Type 0 where
  pub count_is : length facts ≡ count
  pub each : (index : ℕ) (none : ColumnFacts) → index < count → facts_of (get_or facts index none) ≡ facts_at is_maria_log stated columns index
  pub numeric_is : numeric ≡ counted Numeric (take count columns)
  pub character_is : character ≡ counted (character_class is_maria_log) (take count columns)
  pub listed_is : listed ≡ counted EnumOrSet (take count columns)
  pub names_are : names ≡ drop count (names_stated stated.names)
  pub enums_are : enums ≡ drop (class_count Enum (take count columns)) (lists_stated stated.enums)
  pub sets_are : sets ≡ drop (class_count Set (take count columns)) (lists_stated stated.sets)

-- No column yet.
pub none_so_far : (is_maria_log : Bool) (stated : Stated) (columns : List Typed) (facts : List ColumnFacts) (numeric character listed : ClassIndex) (names : List (List ℕ)) (enums sets : Lists)
    → facts ≡ [] → numeric ≡ record { class = Numeric; next = 0 } → character ≡ record { class = character_class is_maria_log; next = 0 } → listed ≡ record { class = EnumOrSet; next = 0 } → names ≡ names_stated stated.names
    → enums ≡ lists_stated stated.enums → sets ≡ lists_stated stated.sets → SoFar is_maria_log stated columns 0 facts numeric character listed names enums sets
none_so_far is_maria_log stated columns facts numeric character listed names enums sets none numeric_is character_is listed_is names_are enums_are sets_are = record {
  count_is = ap (λ (l : List ColumnFacts). length l) none;
  each = λ index fact below. absurd (omega (arith, below));
  numeric_is = numeric_is;
  character_is = character_is;
  listed_is = listed_is;
  names_are = names_are;
  enums_are = enums_are;
  sets_are = sets_are;
}

-- The names that are left are all that are stated.
pub all_names : (columns : Option Names) → names_left columns ≡ names_stated (option_map (λ (c : Names). contents.names COLUMN_NAME (names_of c)) columns)
all_names None = refl
all_names (Some columns) = refl

-- The lists that are left are all that are stated.
pub all_enums : (columns : Option MemberLists) → lists_left columns ≡ lists_stated (option_map (λ (c : MemberLists). contents.lists ENUM_STR_VALUE (lists_of c)) columns)
all_enums None = refl
all_enums (Some columns) = refl

pub all_sets : (columns : Option MemberLists) → lists_left columns ≡ lists_stated (option_map (λ (c : MemberLists). contents.lists SET_STR_VALUE (lists_of c)) columns)
all_sets None = refl
all_sets (Some columns) = refl

-- The next indexes in the classes fit.
pub indexes_fit : {is_maria_log : Bool} {stated : Stated} {columns : List Typed} {count : ℕ} {facts : List ColumnFacts} {numeric character listed : ClassIndex} {left : List (List ℕ)} {enums sets : Lists}
    → SoFar is_maria_log stated columns count facts numeric character listed left enums sets → count < length columns → length columns < 2 ^ 64
    → (numeric.next + 1 < 2 ^ 64) × (character.next + 1 < 2 ^ 64) × (listed.next + 1 < 2 ^ 64)
indexes_fit {is_maria_log} {stated} {columns} {count} {facts} {numeric} {character} {listed} so_far below small =
    let a = class_index_le Numeric columns count (omega arith) in
    let b = class_index_le (character_class is_maria_log) columns count (omega arith) in
    let e : numeric.next ≡ class_count Numeric (take count columns) = ap (λ (i : ClassIndex). i.next) so_far.numeric_is in
    let f : character.next ≡ class_count (character_class is_maria_log) (take count columns) = ap (λ (i : ClassIndex). i.next) so_far.character_is in
    let d = class_index_le EnumOrSet columns count (omega arith) in
    let g : listed.next ≡ class_count EnumOrSet (take count columns) = ap (λ (i : ClassIndex). i.next) so_far.listed_is in
    (omega (arith, a, e, below, small), omega (arith, b, f, below, small), omega (arith, d, g, below, small))

-- All columns.
pub all_facts : {is_maria_log : Bool} {stated : Stated} {columns : List Typed} {count : ℕ} {facts : List ColumnFacts} {numeric character listed : ClassIndex} {left : List (List ℕ)} {enums sets : Lists}
    → (s : List ℕ) (fields : List FieldContent) (refusal : Option OptionalMetadataError) → SoFar is_maria_log stated columns count facts numeric character listed left enums sets
    → count ≡ length columns → AreFields (counts_of is_maria_log columns) s fields → stated ≡ stated_in (contents_of fields) → refusal ≡ first_refusal fields
    → StatesFacts is_maria_log columns s facts refusal
all_facts {is_maria_log} {stated} {columns} {count} {facts} s fields refusal so_far all are last first = record {
  fields = fields;
  are = are;
  refused = first;
  count = so_far.count_is ∙ all;
  each = λ index none below. so_far.each index none (omega (arith, below, all)) ∙ ap (λ (fields : Stated). facts_at is_maria_log fields columns index) last;
}

-- ---- one more column

-- The index in a class of the next column.
abbrev pub next_index : ClassIndex → Typed → Option ℕ
next_index class column = cond (is_in_class class.class (real_type column)) (Some class.next) None

abbrev pub next_class : ClassIndex → Typed → ClassIndex
next_class class column = record { class = class.class; next = class.next + cond (is_in_class class.class (real_type column)) 1 0 }

-- What a column's facts are read from: a fact of a class, at its index there.
abbrev pub fact_in : (ℕ → Bool) → Option ℕ → Bool
fact_in f index = unwrap_or (option_map f index) false

in_class : (f : ℕ → Bool) (is_in : Bool) (index : ℕ) → fact_in f (cond is_in (Some index) None) ≡ is_in && f index
in_class f true index = refl
in_class f false index = refl

-- The set of a column, at its index in its class.
abbrev pub set_in : (ℕ → Option CharacterSet) → Option ℕ → Option CharacterSet
set_in f index = option_and_then f index

same_in_class : (f g : ℕ → Option CharacterSet) (is_in : Bool) (index : ℕ) → f index ≡ g index → set_in f (cond is_in (Some index) None) ≡ cond is_in (g index) None
same_in_class f g true index same = same
same_in_class f g false index same = refl

first_left : {A : Type 0} (n : ℕ) (xs : List A) → slice_get (drop n xs) 0 ≡ slice_get xs n
first_left zero xs = refl
first_left (suc n) [] = refl
first_left (suc n) (x ∷ xs) = first_left n xs

-- The lists of a class that are left behind one more column.
lists_more : (class : ColumnClass) (columns : List Typed) (count : ℕ) (column : Typed) (lists old new : Lists) → count < length columns → column ≡ get_or columns count no_column
    → old ≡ drop (class_count class (take count columns)) lists → new ≡ drop (cond (is_in_class class (real_type column)) 1 0) old
    → new ≡ drop (class_count class (take (count + 1) columns)) lists
lists_more class columns count column lists old new below here old_is new_is =
    let one : ℕ = cond (is_in_class class (real_type column)) 1 0 in
    let more : class_count class (take (count + 1) columns) ≡ class_count class (take count columns) + one =
    class_count_more class columns count no_column below ∙ ap (λ (c : Typed). class_count class (take count columns) + cond (is_in_class class (real_type c)) 1 0) (sym here) in
    new_is ∙ ap (λ (l : Lists). drop one l) old_is ∙ drop-drop one (class_count class (take count columns)) lists ∙ ap (λ (n : ℕ). drop n lists) (sym more)

counted_more : (class : ColumnClass) (columns : List Typed) (count : ℕ) (column : Typed) (old new : ClassIndex) → count < length columns → column ≡ get_or columns count no_column
    → old ≡ counted class (take count columns) → new ≡ next_class old column → new ≡ counted class (take (count + 1) columns)
counted_more class columns count column old new below here old_is new_is =
    let more = class_count_more class columns count no_column below in
    rw (new_is, old_is, more, here) refl

-- What is stated of a column whose facts are read from the fields.
pub record ReadsFacts (stated : Stated) (texts listings : Sets) (numeric character listed : ClassIndex) (names : List (List ℕ)) (enums sets : Lists) (column : Typed) (fact : ColumnFacts) : Type 0 where
  pub name : option_map (λ text. text.now) fact.name ≡ option_and_then text_of (slice_get names 0)
  pub unsigned : fact.is_unsigned ≡ fact_in (is_set_in stated.signedness) (next_index numeric column)
  pub set : fact.character_set ≡ option_or (set_in (λ index. get_or texts index None) (next_index character column)) (set_in (λ index. get_or listings index None) (next_index listed column))
  pub padded : fact.padded_length ≡ padded_length fact.character_set column
  pub members : option_map (λ members. texts_of members.items) fact.members ≡ members_in (real_type column) (slice_get enums 0) (slice_get sets 0)

same_facts : (fact : ColumnFacts) (facts : Facts) → option_map (λ text. text.now) fact.name ≡ facts.name → fact.is_unsigned ≡ facts.is_unsigned → fact.character_set ≡ facts.character_set
    → fact.padded_length ≡ facts.padded_length → option_map (λ members. texts_of members.items) fact.members ≡ facts.members → facts_of fact ≡ facts
same_facts fact facts name unsigned set padded members = rw (name, unsigned, set, padded, members) refl

-- The sets that these are, up to the number of columns.
abbrev pub AreStated : Bool → List Typed → Option contents.Content → Sets → Type 0
AreStated is_maria_log columns stated sets = (index : ℕ) → index < length columns → get_or sets index None ≡ set_stated is_maria_log stated index

-- The set of a column of a class.
set_of_class : (class : ColumnClass) (is_maria_log : Bool) (stated : Option contents.Content) (columns : List Typed) (sets : Sets) (count : ℕ) (index : ClassIndex) (column : Typed) → count < length columns
    → AreStated is_maria_log columns stated sets → index ≡ counted class (take count columns)
    → set_in (λ (i : ℕ). get_or sets i None) (next_index index column) ≡ class_set class is_maria_log stated (take count columns) column
set_of_class class is_maria_log stated columns sets count index column below are index_is =
    let small : class_count class (take count columns) ≤ count = class_index_le class columns count (omega arith) in
    ap (λ (i : ClassIndex). set_in (λ (n : ℕ). get_or sets n None) (next_index i column)) index_is
    ∙ same_in_class (λ (n : ℕ). get_or sets n None) (set_stated is_maria_log stated) (is_in_class class (real_type column)) (class_count class (take count columns))
    (are (class_count class (take count columns)) (omega (arith, small, below)))

-- The facts of the next column are those that are stated of it.
next_facts : (is_maria_log : Bool) (stated : Stated) (columns : List Typed) (texts listings : Sets) (count : ℕ) (numeric character listed : ClassIndex) (names : List (List ℕ)) (enums sets : Lists) (column : Typed)
    (fact : ColumnFacts) → count < length columns → column ≡ get_or columns count no_column
    → numeric ≡ counted Numeric (take count columns) → character ≡ counted (character_class is_maria_log) (take count columns) → listed ≡ counted EnumOrSet (take count columns)
    → names ≡ drop count (names_stated stated.names)
    → enums ≡ drop (class_count Enum (take count columns)) (lists_stated stated.enums) → sets ≡ drop (class_count Set (take count columns)) (lists_stated stated.sets)
    → AreStated is_maria_log columns stated.collations texts → AreStated is_maria_log columns stated.member_collations listings
    → ReadsFacts stated texts listings numeric character listed names enums sets column fact → facts_of fact ≡ facts_at is_maria_log stated columns count
next_facts is_maria_log stated columns texts listings count numeric character listed names enums sets column fact below here numeric_is character_is listed_is names_are enums_are sets_are are_texts are_listings reads =
    let before : List Typed = take count columns in
    let len : length before ≡ count = length-take-le count columns (omega arith) in
    let class = Numeric in
    let name : option_map (λ text. text.now) fact.name ≡ option_and_then text_of (slice_get (names_stated stated.names) (length before)) =
    reads.name ∙ ap (λ (left : List (List ℕ)). option_and_then text_of (slice_get left 0)) names_are
    ∙ ap (λ (name : Option (List ℕ)). option_and_then text_of name) (first_left count (names_stated stated.names))
    ∙ ap (λ (n : ℕ). option_and_then text_of (slice_get (names_stated stated.names) n)) (sym len) in
    let unsigned : fact.is_unsigned ≡ is_in_class class (real_type column) && is_set_in stated.signedness (class_count class before) =
    reads.unsigned ∙ ap (λ (index : ClassIndex). fact_in (is_set_in stated.signedness) (next_index index column)) numeric_is
    ∙ in_class (is_set_in stated.signedness) (is_in_class class (real_type column)) (class_count class before) in
    let set : fact.character_set ≡ set_behind is_maria_log stated before column =
    reads.set
    ∙ ap (λ (first : Option CharacterSet). option_or first (set_in (λ (i : ℕ). get_or listings i None) (next_index listed column)))
    (set_of_class (character_class is_maria_log) is_maria_log stated.collations columns texts count character column below are_texts character_is)
    ∙ ap (λ (second : Option CharacterSet). option_or (class_set (character_class is_maria_log) is_maria_log stated.collations before column) second)
    (set_of_class EnumOrSet is_maria_log stated.member_collations columns listings count listed column below are_listings listed_is) in
    let padded : fact.padded_length ≡ padded_length (set_behind is_maria_log stated before column) column = reads.padded ∙ ap (λ (s : Option CharacterSet). padded_length s column) set in
    let members : option_map (λ members. texts_of members.items) fact.members ≡ (facts_behind is_maria_log stated before column).members =
    reads.members
    ∙ ap (λ (first : Option (List (List ℕ))). members_in (real_type column) first (slice_get sets 0))
    (ap (λ (l : Lists). slice_get l 0) enums_are ∙ first_left (class_count Enum before) (lists_stated stated.enums))
    ∙ ap (λ (first : Option (List (List ℕ))). members_in (real_type column) (slice_get (lists_stated stated.enums) (class_count Enum before)) first)
    (ap (λ (l : Lists). slice_get l 0) sets_are ∙ first_left (class_count Set before) (lists_stated stated.sets)) in
    same_facts fact (facts_behind is_maria_log stated before column) name unsigned set padded members ∙ ap (λ (c : Typed). facts_behind is_maria_log stated before c) here

-- One more column.
pub one_more : (is_maria_log : Bool) (stated : Stated) (columns : List Typed) (texts listings : Sets) (count : ℕ) (old new : List ColumnFacts)
    (numeric numeric' character character' listed listed' : ClassIndex) (names names' : List (List ℕ)) (enums enums' sets sets' : Lists) (column : Typed) (fact : ColumnFacts)
    → SoFar is_maria_log stated columns count old numeric character listed names enums sets → count < length columns → column ≡ get_or columns count no_column
    → AreStated is_maria_log columns stated.collations texts → AreStated is_maria_log columns stated.member_collations listings
    → ReadsFacts stated texts listings numeric character listed names enums sets column fact
    → new ≡ old ++ fact ∷ [] → numeric' ≡ next_class numeric column → character' ≡ next_class character column → listed' ≡ next_class listed column → names' ≡ drop 1 names
    → enums' ≡ drop (cond (is_in_class Enum (real_type column)) 1 0) enums → sets' ≡ drop (cond (is_in_class Set (real_type column)) 1 0) sets
    → SoFar is_maria_log stated columns (count + 1) new numeric' character' listed' names' enums' sets'
one_more is_maria_log stated columns texts listings count old new numeric numeric' character character' listed listed' names names' enums enums' sets sets' column fact so_far below here are_texts are_listings reads is numeric_is
    character_is listed_is names_are enums_are sets_are =
    let next : facts_of fact ≡ facts_at is_maria_log stated columns count =
    next_facts is_maria_log stated columns texts listings count numeric character listed names enums sets column fact below here so_far.numeric_is so_far.character_is so_far.listed_is so_far.names_are so_far.enums_are
    so_far.sets_are are_texts are_listings reads in
    record {
      count_is = ap (λ (l : List ColumnFacts). length l) is ∙ length_push old fact ∙ ap (λ (n : ℕ). n + 1) so_far.count_is;
      each = λ index none less.
          subst (λ (l : List ColumnFacts). facts_of (get_or l index none) ≡ facts_at is_maria_log stated columns index) (sym is)
          (⊎_elim
          (λ earlier. ap (λ (f : ColumnFacts). facts_of f) (get_or_append_left old (fact ∷ []) none index (omega (arith, so_far.count_is))) ∙ so_far.each index none earlier)
          (λ last.
          let same : count ≡ index = omega (arith, less, last) in
          let length_is : length old ≡ index = so_far.count_is ∙ same in
          ap (λ (f : ColumnFacts). facts_of f) (get_or_push old fact none index length_is) ∙ next ∙ ap (λ (n : ℕ). facts_at is_maria_log stated columns n) same)
          (cases_lt index count));
      numeric_is = counted_more Numeric columns count column numeric numeric' below here so_far.numeric_is numeric_is;
      character_is = counted_more (character_class is_maria_log) columns count column character character' below here so_far.character_is character_is;
      listed_is = counted_more EnumOrSet columns count column listed listed' below here so_far.listed_is listed_is;
      names_are = names_are ∙ ap (λ (l : List (List ℕ)). drop 1 l) so_far.names_are ∙ drop-drop 1 count (names_stated stated.names);
      enums_are = lists_more Enum columns count column (lists_stated stated.enums) enums enums' below here so_far.enums_are enums_are;
      sets_are = lists_more Set columns count column (lists_stated stated.sets) sets sets' below here so_far.sets_are sets_are;
    }
