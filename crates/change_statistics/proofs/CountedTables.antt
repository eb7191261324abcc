-- The tables of a transaction with one event more.
use Rattle.std.proofs.Common.{◌≡◌, ℕ, Bool, true, false, cond, ltb, List, [], ◌∷◌, ◌++◌, length, Option, Some, None, refl, sym, ap, subst, ◌∙◌}
use Rattle.std.specs.Prelude.{◌≢◌, MatchOption}
use Rattle.std.specs.List.{AllByRecursion, IsDistinct}
use Rattle.std.specs.Map.{lookup, keys_of}
use Rattle.indexmap.specs.IndexMap.{insert_entry}
use Rattle.change_statistics.specs.EventCounting.{no_event_counts, with_event}
use Rattle.change_statistics.specs.Facts.{Name, Rows, nothing, unknown, rows, Fact}
use Rattle.change_statistics.specs.Names.{name_of, name_eq, is_named}
use Rattle.change_statistics.specs.SeenTables.{SeenTables, named_entries}
use Rattle.change_statistics.specs.Tables.{max_tables}
use Rattle.change_statistics.specs.TransactionTables.{with_table, with_rows_behind, with_rows_if, with_tables}
use Rattle.change_statistics.specs.WholeCounts.{is_of, of_table, size}
use Rattle.change_statistics.specs.WholeEvents.{AreEventCounts}
use Rattle.change_statistics.specs.WholeTransactions.{AreTablesOf}
use Rattle.change_statistics.specs.declared.event_counts.EventCounts.{EventCounts}
use Rattle.change_statistics.specs.declared.facts.ChangeKind.{ChangeKind}
use Rattle.change_statistics.specs.declared.table_name.TableName.{TableName}
use Rattle.change_statistics.proofs.CountedEvents.{none_counted, one_counted}
use Rattle.change_statistics.proofs.MoreCounted.{filter_more, filter_same}
use Rattle.change_statistics.proofs.NamedTables.{same_name, own_name}

-- ---- entries by names

pub lookup_named : (name : Name) (entries : List (TableName × EventCounts)) → lookup (is_named name) entries ≡ lookup (name_eq name) (named_entries entries)
lookup_named name [] = refl
lookup_named name (entry ∷ entries) = ap (λ (o : Option EventCounts). cond (name_eq name (name_of entry.0)) (Some entry.1) o) (lookup_named name entries)

pub named_inserted : (key : TableName) (counts : EventCounts) (entries : List (TableName × EventCounts))
    → named_entries (insert_entry (λ (k : TableName). is_named (name_of k)) entries key counts) ≡ insert_entry name_eq (named_entries entries) (name_of key) counts
named_inserted key counts [] = refl
named_inserted key counts (entry ∷ entries) = by (name_eq (name_of key) (name_of entry.0)) refl (named_inserted key counts entries)
  where
    by : (b : Bool) → name_eq (name_of key) (name_of entry.0) ≡ b → named_entries (insert_entry (λ (k : TableName). is_named (name_of k)) entries key counts) ≡ insert_entry name_eq (named_entries entries) (name_of key) counts
        → named_entries (insert_entry (λ (k : TableName). is_named (name_of k)) (entry ∷ entries) key counts) ≡ insert_entry name_eq (named_entries (entry ∷ entries)) (name_of key) counts
    by true is rest = rw is refl
    by false is rest = rw is (ap (λ (l : List (Name × EventCounts)). (name_of entry.0, entry.1) ∷ l) rest)

-- ---- one table more, or one that is there

abbrev Entries : Type 0
Entries = List (Name × EventCounts)

other_way : (name other : Name) → name_eq name other ≡ false → name_eq other name ≡ false
other_way name other apart = by (name_eq other name) refl
  where
    by : (b : Bool) → name_eq other name ≡ b → name_eq other name ≡ false
    by false is = is
    by true is = absurd (
        let same : true ≡ false = sym (own_name name) ∙ ap (λ (n : Name). name_eq name n) (sym (same_name other name is)) ∙ apart in
        cc)

module _ (own : Name) (counts : EventCounts) where
  own_found : (entries : Entries) → lookup (name_eq own) (with_table entries own counts) ≡ Some counts
  own_found [] = ap (λ (b : Bool). cond b (Some counts) None) (own_name own)
  own_found (entry ∷ entries) = by (name_eq own entry.0) refl (own_found entries)
    where
      by : (b : Bool) → name_eq own entry.0 ≡ b → lookup (name_eq own) (with_table entries own counts) ≡ Some counts → lookup (name_eq own) (with_table (entry ∷ entries) own counts) ≡ Some counts
      by true is rest = rw is (rw is refl)
      by false is rest = rw is (rw is rest)

  other_found : (name : Name) → name_eq own name ≡ false → (entries : Entries) → lookup (name_eq name) (with_table entries own counts) ≡ lookup (name_eq name) entries
  other_found name apart [] = ap (λ (b : Bool). cond b (Some counts) None) (other_way own name apart)
  other_found name apart (entry ∷ entries) = by (name_eq own entry.0) refl (other_found name apart entries)
    where
      by : (b : Bool) → name_eq own entry.0 ≡ b → lookup (name_eq name) (with_table entries own counts) ≡ lookup (name_eq name) entries
          → lookup (name_eq name) (with_table (entry ∷ entries) own counts) ≡ lookup (name_eq name) (entry ∷ entries)
      by true is rest =
          let apart_here : name_eq name entry.0 ≡ false = ap (λ (n : Name). name_eq name n) (sym (same_name own entry.0 is)) ∙ other_way own name apart in
          rw is (rw apart_here refl)
      by false is rest = rw is (ap (λ (o : Option EventCounts). cond (name_eq name entry.0) (Some entry.1) o) rest)

  apart_from_more : (key : Name) → name_eq key own ≡ false → (entries : Entries) → AllByRecursion (λ (k : Name). name_eq key k ≡ false) (keys_of entries)
      → AllByRecursion (λ (k : Name). name_eq key k ≡ false) (keys_of (with_table entries own counts))
  apart_from_more key apart [] all = (apart, tt)
  apart_from_more key apart (entry ∷ entries) (first, rest) = by (name_eq own entry.0) refl (apart_from_more key apart entries rest)
    where
      by : (b : Bool) → name_eq own entry.0 ≡ b → AllByRecursion (λ (k : Name). name_eq key k ≡ false) (keys_of (with_table entries own counts))
          → AllByRecursion (λ (k : Name). name_eq key k ≡ false) (keys_of (with_table (entry ∷ entries) own counts))
      by true is more = rw is (first, rest)
      by false is more = rw is (first, more)

  distinct_more : (entries : Entries) → IsDistinct name_eq (keys_of entries) → IsDistinct name_eq (keys_of (with_table entries own counts))
  unfolding IsDistinct
  distinct_more [] all = (tt, tt)
  distinct_more (entry ∷ entries) (first, rest) = by (name_eq own entry.0) refl (distinct_more entries rest)
    where
      by : (b : Bool) → name_eq own entry.0 ≡ b → IsDistinct name_eq (keys_of (with_table entries own counts)) → IsDistinct name_eq (keys_of (with_table (entry ∷ entries) own counts))
      by true is more = rw is (first, rest)
      by false is more = rw is (apart_from_more entry.0 (other_way own entry.0 is) entries first, more)

-- ---- all

none_distinct : IsDistinct name_eq []
unfolding IsDistinct
none_distinct = tt

pub no_tables_counted : AreTablesOf [] []
no_tables_counted = record { tables = λ name. refl; once = none_distinct }

pushed_not_nil : (l : List Fact) (x : Fact) → l ++ x ∷ [] ≡ [] → ⊥
pushed_not_nil [] x none = cc
pushed_not_nil (y ∷ l) x none = cc

module _ (facts : List Fact) (begins : Bool) (gtid : List ℕ) (stored own_size end time : ℕ) (old : SeenTables) (was : old.is_full ≡ false → AreTablesOf facts old.entries) where
  abbrev With : Rows → Fact
  With said = record { begins = begins; gtid = gtid; bytes = stored; size = own_size; end = end; time = time; rows = said }

  abbrev AreThen : Rows → SeenTables → Type 0
  AreThen said new = new.is_full ≡ false → AreTablesOf (facts ++ With said ∷ []) new.entries

  -- An event without rows of a table.
  same_tables : (said : Rows) → ((name : Name) → is_of name (With said) ≡ false) → AreThen said old
  same_tables said other room =
      let are = was room in
      record {
        tables = λ name.
            subst (λ (l : List Fact). MatchOption (lookup (name_eq name) old.entries) (l ≡ []) (λ counts. (l ≢ []) × AreEventCounts size l counts))
            (sym (filter_same (is_of name) facts (With said) (other name))) (are.tables name);
        once = are.once;
      }

  module _ (own : Name) (kind : ChangeKind) (count : Option ℕ) where
    abbrev Event : Fact
    Event = With (rows own kind count)

    abbrev Is : Name → Option EventCounts → List Fact → Type 0
    Is name found l = MatchOption found (l ≡ []) (λ counts. (l ≢ []) × AreEventCounts size l counts)

    of_own : of_table own (facts ++ Event ∷ []) ≡ of_table own facts ++ Event ∷ []
    of_own = filter_more (is_of own) facts Event (own_name own)

    -- The counts of the table are those with one event more.
    module _ (before : EventCounts) (counted : AreEventCounts size (of_table own facts) before) (room : old.is_full ≡ false) where
      abbrev After : EventCounts
      After = with_event before own_size Event

      own_counted : Is own (lookup (name_eq own) (with_table old.entries own After)) (of_table own (facts ++ Event ∷ []))
      own_counted =
          subst (λ (l : List Fact). Is own (lookup (name_eq own) (with_table old.entries own After)) l) (sym of_own)
          (subst (λ (o : Option EventCounts). Is own o (of_table own facts ++ Event ∷ [])) (sym (own_found own After old.entries))
          (pushed_not_nil (of_table own facts) Event, one_counted size (of_table own facts) Event before counted))

      each_counted : (name : Name) (b : Bool) → name_eq own name ≡ b → Is name (lookup (name_eq name) (with_table old.entries own After)) (of_table name (facts ++ Event ∷ []))
      each_counted name true is =
          subst (λ (n : Name). Is n (lookup (name_eq n) (with_table old.entries own After)) (of_table n (facts ++ Event ∷ []))) (same_name own name is) own_counted
      each_counted name false apart =
          subst (λ (l : List Fact). Is name (lookup (name_eq name) (with_table old.entries own After)) l) (sym (filter_same (is_of name) facts Event apart))
          (subst (λ (o : Option EventCounts). Is name o (of_table name facts)) (sym (other_found own After name apart old.entries)) ((was room).tables name))

      table_counted : AreTablesOf (facts ++ Event ∷ []) (with_table old.entries own After)
      table_counted = record { tables = λ name. each_counted name (name_eq own name) refl; once = distinct_more own After old.entries (was room).once }

    counted_behind : (found : Option EventCounts) → lookup (name_eq own) old.entries ≡ found → (b : Bool) → ltb (length old.entries) max_tables ≡ b → old.is_full ≡ false
        → AreThen (rows own kind count) (with_rows_behind found old own Event)
    counted_behind (Some counts) is b more room = λ still.
        let own_was : Is own (Some counts) (of_table own facts) = subst (λ (o : Option EventCounts). Is own o (of_table own facts)) is ((was room).tables own) in
        table_counted counts own_was.1 room
    counted_behind None is true more room = rw more (λ still.
        let own_was : Is own None (of_table own facts) = subst (λ (o : Option EventCounts). Is own o (of_table own facts)) is ((was room).tables own) in
        table_counted no_event_counts (subst (λ (l : List Fact). AreEventCounts size l no_event_counts) (sym own_was) (none_counted size)) room)
    counted_behind None is false more room = rw more (λ still. absurd (let no : true ≡ false = still in cc))

    counted_if : (b : Bool) → old.is_full ≡ b → AreThen (rows own kind count) (with_rows_if b old own Event)
    counted_if true full = λ still. absurd (let no : true ≡ false = sym full ∙ still in cc)
    counted_if false room = counted_behind (lookup (name_eq own) old.entries) refl (ltb (length old.entries) max_tables) refl room

  counted_said : (said : Rows) → AreThen said (with_tables old (With said))
  counted_said nothing = same_tables nothing (λ name. refl)
  counted_said unknown = same_tables unknown (λ name. refl)
  counted_said (rows own kind count) = counted_if own kind count old.is_full refl

-- The tables are those of the events with one more.
pub tables_counted : (facts : List Fact) (fact : Fact) (old : SeenTables) → (old.is_full ≡ false → AreTablesOf facts old.entries)
    → (with_tables old fact).is_full ≡ false → AreTablesOf (facts ++ fact ∷ []) (with_tables old fact).entries
tables_counted facts fact old was = counted_said facts fact.begins fact.gtid fact.bytes fact.size fact.end fact.time old was fact.rows
