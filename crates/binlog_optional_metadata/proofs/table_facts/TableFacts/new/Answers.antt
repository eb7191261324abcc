use Rattle.std.proofs.Common.{◌≡◌, ℕ, ◌+◌, ◌^◌, ◌<◌, cond, Option, List, [], ◌∷◌, ◌++◌, length, get_or, drop, Some, None, refl, ap, ◌∙◌, arith, rules}
use Rattle.std.proofs.lemmas.Iterator.Consumers.{YieldsList-from_first, YieldsList-turn, YieldsList-end}
use Rattle.std.proofs.lemmas.List.{get_or_read, length_push}
use Rattle.std.specs.Option.{option_or}
use Rattle.character_sets.specs.declared.character_set.CharacterSet.{CharacterSet}
use Rattle.binlog_columns.specs.Columns.{typed_of}
use Rattle.binlog_columns.specs.TableColumns.{columns_of}
use Rattle.binlog_columns.specs.declared.column_type.ColumnType.{ColumnType}
use Rattle.binlog_optional_metadata.specs.Classes.{is_in_class}
use Rattle.binlog_optional_metadata.specs.declared.column_class.ColumnClass.{ColumnClass}
use Rattle.binlog_optional_metadata.specs.declared.column_class.ColumnClass.TheVariants.{Enum, Set, EnumOrSet}
use Rattle.std.specs.Prelude.{slice_get}
use Rattle.binlog_optional_metadata.specs.Stated.{is_set_in, members_in}
use Rattle.binlog_optional_metadata.specs.StatedFields.{stated_of, names_left, lists_left}
use Rattle.binlog_optional_metadata.specs.declared.column_facts.ColumnFacts.{ColumnFacts}
use Rattle.binlog_optional_metadata.proofs.ColumnSets.{by_members}
use Rattle.binlog_optional_metadata.proofs.FactsSoFar.{no_column, counted, none_so_far, all_names, all_enums, all_sets, indexes_fit, fact_in, set_in, next_index, next_class, Sets, AreStated, ReadsFacts, one_more, all_facts}
use Rattle.binlog_optional_metadata.proofs.table_facts.TableFacts.new.Goals as goal

pub take-numeric_index-requires : goal.take-numeric_index-requires
take-numeric_index-requires c =
    let start : columns_of c.into_iter-column-iterator.result ≡ columns_of c.args.columns = ap columns_of c.into_iter-column-iterator.ensures.into_iter_gives in
    let turn = YieldsList-turn (YieldsList-from_first typed_of columns_of (columns_of c.args.columns) start) c.columns.yielded c.columns.column-iterator c.columns.yielded_by
    (Some c.in-Some.column) c.next.new.self c.in-Some.column refl c.in-Some.ensures.steps in
    let small : length (columns_of c.args.columns) < 2 ^ 64 = omega (arith, c.num_columns-count.ensures) in
    (indexes_fit c.columns.invariant turn.0 small).0

pub take-character_index-requires : goal.take-character_index-requires
take-character_index-requires c =
    let start : columns_of c.into_iter-column-iterator.result ≡ columns_of c.args.columns = ap columns_of c.into_iter-column-iterator.ensures.into_iter_gives in
    let turn = YieldsList-turn (YieldsList-from_first typed_of columns_of (columns_of c.args.columns) start) c.columns.yielded c.columns.column-iterator c.columns.yielded_by
    (Some c.in-Some.column) c.next.new.self c.in-Some.column refl c.in-Some.ensures.steps in
    let small : length (columns_of c.args.columns) < 2 ^ 64 = omega (arith, c.num_columns-count.ensures) in
    (indexes_fit c.columns.invariant turn.0 small).1

pub take-listed_index-requires : goal.take-listed_index-requires
take-listed_index-requires c =
    let start : columns_of c.into_iter-column-iterator.result ≡ columns_of c.args.columns = ap columns_of c.into_iter-column-iterator.ensures.into_iter_gives in
    let turn = YieldsList-turn (YieldsList-from_first typed_of columns_of (columns_of c.args.columns) start) c.columns.yielded c.columns.column-iterator c.columns.yielded_by
    (Some c.in-Some.column) c.next.new.self c.in-Some.column refl c.in-Some.ensures.steps in
    let small : length (columns_of c.args.columns) < 2 ^ 64 = omega (arith, c.num_columns-count.ensures) in
    (indexes_fit c.columns.invariant turn.0 small).2

pub columns-init : goal.columns-init
columns-init c =
    none_so_far c.args.is_maria_log (stated_of c.read-stated.result) (columns_of c.args.columns) c.in_ok-facts.facts.items c.new-numeric.result c.new-character.result c.new-listed.result
    (names_left c.read-stated.result.names) (lists_left c.read-stated.result.enums) (lists_left c.read-stated.result.sets) c.in_ok-facts.ensures.items
    c.new-numeric.ensures (c.new-character.ensures ∙ ap (λ (class : ColumnClass). counted class []) c.character.ensures) c.new-listed.ensures (all_names c.read-stated.result.names) (all_enums c.read-stated.result.enums) (all_sets c.read-stated.result.sets)

pub columns-preserved : goal.columns-preserved
columns-preserved c =
    let start : columns_of c.into_iter-column-iterator.result ≡ columns_of c.args.columns = ap columns_of c.into_iter-column-iterator.ensures.into_iter_gives in
    let turn = YieldsList-turn (YieldsList-from_first typed_of columns_of (columns_of c.args.columns) start) c.columns.yielded c.columns.column-iterator c.columns.yielded_by
    (Some c.in-Some.column) c.next.new.self c.in-Some.column refl c.in-Some.ensures.steps in
    let here = get_or_read (columns_of c.args.columns) (length c.columns.yielded) (typed_of c.in-Some.column) turn.0 turn.1 no_column in
    let fact : ColumnFacts = record {
      name = c.next_name.result;
      is_unsigned = c.is_set.result;
      character_set = c.first_set-character_set.result;
      padded_length = c.padded_length.result;
      members = c.in_ok-members.members;
    } in
    let pushed : c.push.new.self.items ≡ c.columns.facts.items ++ fact ∷ [] = search rules in
    let stated = stated_of c.read-stated.result in
    let reads : ReadsFacts stated c.in_ok-sets_of_texts.sets_of_texts.items c.in_ok-sets_of_members.sets_of_members.items c.columns.numeric c.columns.character c.columns.listed (names_left c.columns.names)
    (lists_left c.columns.enums) (lists_left c.columns.sets) (typed_of c.in-Some.column) fact = record {
      name = c.next_name.ensures.name;
      unsigned = c.is_set.ensures
          ∙ ap (fact_in (is_set_in stated.signedness))
          (c.take-numeric_index.ensures.index ∙ ap (λ (t : ColumnType). cond (is_in_class c.columns.numeric.class t) (Some c.columns.numeric.next) None) c.real_type-real_type.ensures);
      set = c.first_set-character_set.ensures
          ∙ ap (λ (first : Option CharacterSet). option_or first c.set_at-of_members.result)
          (c.set_at-of_texts.ensures
          ∙ ap (λ (sets : Sets). set_in (λ (i : ℕ). get_or sets i None) c.take-character_index.result) c.deref.ensures.value
          ∙ ap (set_in (λ (i : ℕ). get_or c.in_ok-sets_of_texts.sets_of_texts.items i None))
          (c.take-character_index.ensures.index ∙ ap (λ (t : ColumnType). cond (is_in_class c.columns.character.class t) (Some c.columns.character.next) None) c.real_type-real_type.ensures))
          ∙ ap (λ (second : Option CharacterSet). option_or (set_in (λ (i : ℕ). get_or c.in_ok-sets_of_texts.sets_of_texts.items i None) (next_index c.columns.character (typed_of c.in-Some.column))) second)
          (c.set_at-of_members.ensures
          ∙ ap (λ (sets : Sets). set_in (λ (i : ℕ). get_or sets i None) c.take-listed_index.result) c.deref-in-columns.ensures.value
          ∙ ap (set_in (λ (i : ℕ). get_or c.in_ok-sets_of_members.sets_of_members.items i None))
          (c.take-listed_index.ensures.index ∙ ap (λ (t : ColumnType). cond (is_in_class c.columns.listed.class t) (Some c.columns.listed.next) None) c.real_type-real_type.ensures));
      padded = c.padded_length.ensures;
      members = c.in_ok-members.ensures.members
          ∙ ap (λ (t : ColumnType). members_in t (slice_get (lists_left c.columns.enums) 0) (slice_get (lists_left c.columns.sets) 0)) c.real_type-real_type.ensures;
    } in
    let numeric : c.take-numeric_index.new.self ≡ next_class c.columns.numeric (typed_of c.in-Some.column) =
    c.take-numeric_index.ensures.after
    ∙ ap (λ (t : ColumnType). record { class = c.columns.numeric.class; next = c.columns.numeric.next + cond (is_in_class c.columns.numeric.class t) 1 0 }) c.real_type-real_type.ensures in
    let character : c.take-character_index.new.self ≡ next_class c.columns.character (typed_of c.in-Some.column) =
    c.take-character_index.ensures.after
    ∙ ap (λ (t : ColumnType). record { class = c.columns.character.class; next = c.columns.character.next + cond (is_in_class c.columns.character.class t) 1 0 }) c.real_type-real_type.ensures in
    let listed : c.take-listed_index.new.self ≡ next_class c.columns.listed (typed_of c.in-Some.column) =
    c.take-listed_index.ensures.after
    ∙ ap (λ (t : ColumnType). record { class = c.columns.listed.class; next = c.columns.listed.next + cond (is_in_class c.columns.listed.class t) 1 0 }) c.real_type-real_type.ensures in
    let are_texts : AreStated c.args.is_maria_log (columns_of c.args.columns) stated.collations c.in_ok-sets_of_texts.sets_of_texts.items =
    λ index less. c.in_ok-sets_of_texts.ensures index (omega (arith, c.num_columns-count.ensures, less)) in
    let are_members : AreStated c.args.is_maria_log (columns_of c.args.columns) stated.member_collations c.in_ok-sets_of_members.sets_of_members.items =
    λ index less. c.in_ok-sets_of_members.ensures index (omega (arith, c.num_columns-count.ensures, less)) ∙ by_members c.args.is_maria_log c.read-stated.result.member_collations index in
    let enums = c.in_ok-members.ensures.enums ∙ ap (λ (t : ColumnType). drop (cond (is_in_class Enum t) 1 0) (lists_left c.columns.enums)) c.real_type-real_type.ensures in
    let sets = c.in_ok-members.ensures.sets ∙ ap (λ (t : ColumnType). drop (cond (is_in_class Set t) 1 0) (lists_left c.columns.sets)) c.real_type-real_type.ensures in
    rw (length_push c.columns.yielded c.in-Some.column)
    (one_more c.args.is_maria_log stated (columns_of c.args.columns) c.in_ok-sets_of_texts.sets_of_texts.items c.in_ok-sets_of_members.sets_of_members.items (length c.columns.yielded) c.columns.facts.items
    c.push.new.self.items c.columns.numeric c.take-numeric_index.new.self c.columns.character c.take-character_index.new.self c.columns.listed c.take-listed_index.new.self
    (names_left c.columns.names) (names_left c.next_name.new.names) (lists_left c.columns.enums) (lists_left c.next_members.new.enums) (lists_left c.columns.sets) (lists_left c.next_members.new.sets)
    (typed_of c.in-Some.column) fact c.columns.invariant turn.0 here are_texts are_members reads pushed numeric character listed c.next_name.ensures.rest enums sets)

pub returns : goal.returns
returns c =
    let start : columns_of c.into_iter-column-iterator.result ≡ columns_of c.args.columns = ap columns_of c.into_iter-column-iterator.ensures.into_iter_gives in
    let ended = YieldsList-end (YieldsList-from_first typed_of columns_of (columns_of c.args.columns) start) c.columns.yielded c.columns.column-iterator c.columns.yielded_by
    None c.next.new.self refl c.in-None.ensures.steps in
    let are = rw (c.new-fields.ensures.counts, c.new-fields.ensures.bytes) at c.read-stated.ensures.are in
    all_facts c.args.optional_metadata.now c.read-stated.ensures.fields c.read-stated.result.refusal c.columns.invariant ended.1 are c.read-stated.ensures.last c.read-stated.ensures.first
