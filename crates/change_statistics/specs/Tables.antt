-- Counting the changes of tables, fact by fact.
use Rattle.std.specs.Prelude.{◌≡◌, ◌⊎◌, ℕ, ◌+◌, ◌<◌, ◌≤◌, true, false, List, [], length, Option, Some, None, IsSome, is_some, is_none, unwrap_or, nat_lt, if◌then◌else◌}
use Rattle.indexmap.specs.IndexMap.{get_by}
use Rattle.change_statistics.specs.Facts.{Name, Rows, nothing, unknown, rows, Fact}
use Rattle.change_statistics.specs.Names.{name_eq, is_named}
use Rattle.change_statistics.specs.Counting.{counted, counted_if, rows_as, AddsEach}
use Rattle.change_statistics.specs.declared.facts.ChangeKind.{ChangeKind}
use Rattle.change_statistics.specs.declared.facts.ChangeKind.TheVariants.{Inserted, Updated, Deleted}
use Rattle.change_statistics.specs.declared.table_counts.TableCounts.{TableCounts}
use Rattle.change_statistics.specs.declared.table_counts.UnknownRows.{UnknownRows}
use Rattle.change_statistics.specs.declared.tables.TableStats.{TableStats}

-- The greatest number of tables.
abbrev pub max_tables : ℕ
max_tables = 65536

-- Nothing is counted of a table.
abbrev pub no_counts : TableCounts
no_counts = record { inserted = 0; updated = 0; deleted = 0; events = 0; unread_events = 0; bytes = 0; transactions = 0; first_time = None; last_time = None; last_transaction = 0 }

-- The counts with one more row event, of so many bytes, of this time and in the transaction with this number.
abbrev pub with_rows : TableCounts → (transaction bytes time : ℕ) → ChangeKind → Option ℕ → TableCounts
with_rows old transaction bytes time kind count = record {
  inserted = counted old.inserted (rows_as Inserted kind count);
  updated = counted old.updated (rows_as Updated kind count);
  deleted = counted old.deleted (rows_as Deleted kind count);
  events = counted old.events 1;
  unread_events = counted_if (is_none count) old.unread_events;
  bytes = counted old.bytes bytes;
  transactions = counted_if (nat_lt old.last_transaction transaction) old.transactions;
  first_time = Some (unwrap_or old.first_time time);
  last_time = Some time;
  last_transaction = transaction;
}

abbrev pub none_unknown : UnknownRows
none_unknown = record { events = 0; bytes = 0 }

abbrev pub with_unknown : UnknownRows → (bytes : ℕ) → UnknownRows
with_unknown old bytes = record { events = counted old.events 1; bytes = counted old.bytes bytes }

-- The counts of the table with this name, if it has some.
abbrev pub counts_named : TableStats → Name → Option TableCounts
counts_named stats name = get_by (is_named name) stats.tables

-- The number of tables.
abbrev pub table_count : TableStats → ℕ
table_count stats = length stats.tables.entries

-- Nothing is counted.
pub record AreEmpty (stats : TableStats) : Type 0 where
  pub tables : stats.tables.entries ≡ []
  pub transactions : stats.transactions ≡ 0
  pub unknown : stats.unknown ≡ none_unknown
  pub is_full : stats.is_full ≡ false

-- The same counts of all tables, in the same order.
pub record AreSame (old new : TableStats) : Type 0 where
  pub tables : new.tables.entries ≡ old.tables.entries
  pub transactions : new.transactions ≡ old.transactions
  pub unknown : new.unknown ≡ old.unknown
  pub is_full : new.is_full ≡ old.is_full

-- The table with this name has these counts, and the others are as before.
pub record Puts (old : TableStats) (name : Name) (counts : TableCounts) (new : TableStats) : Type 0 where
  pub tables : (other : Name) → counts_named new other ≡ (if name_eq name other then Some counts else counts_named old other)
  pub number : table_count new ≡ table_count old + (if is_some (counts_named old name) then 0 else 1)
  pub transactions : new.transactions ≡ old.transactions
  pub unknown : new.unknown ≡ old.unknown
  pub is_full : new.is_full ≡ old.is_full

-- The counts of the table with this name, and of no other, have one more row event. There is room for it.
pub record AddsRows (old : TableStats) (transaction bytes time : ℕ) (name : Name) (kind : ChangeKind) (count : Option ℕ) (new : TableStats) : Type 0 where
  pub room : IsSome (counts_named old name) ⊎ (table_count old < max_tables)
  pub tables : (other : Name) → counts_named new other
      ≡ (if name_eq name other then Some (with_rows (unwrap_or (counts_named old name) no_counts) transaction bytes time kind count) else counts_named old other)
  pub number : table_count new ≡ table_count old + (if is_some (counts_named old name) then 0 else 1)
  pub transactions : new.transactions ≡ transaction
  pub unknown : new.unknown ≡ old.unknown
  pub is_full : new.is_full ≡ false

-- There is no room for the table with this name. Nothing is counted.
abbrev pub HasNoRoom : TableStats → Name → TableStats → Type 0
HasNoRoom old name new = (counts_named old name ≡ None) × (max_tables ≤ table_count old) × (new ≡ record old { is_full = true })

-- What an event says of rows is counted, in the transaction with this number.
abbrev pub AddsChange : TableStats → (transaction bytes time : ℕ) → Rows → TableStats → Type 0
AddsChange old transaction bytes time nothing new = new ≡ record old { transactions = transaction }
AddsChange old transaction bytes time unknown new = new ≡ record old { transactions = transaction; unknown = with_unknown old.unknown bytes }
AddsChange old transaction bytes time (rows name kind count) new = AddsRows old transaction bytes time name kind count new ⊎ HasNoRoom old name new

-- The facts of an event are counted, unless there was no room for a table before.
abbrev pub Adds : TableStats → Fact → TableStats → Type 0
Adds old fact new =
    ((old.is_full ≡ true) × (new ≡ old))
    ⊎ ((old.is_full ≡ false) × AddsChange old (counted_if fact.begins old.transactions) fact.size fact.time fact.rows new)

-- The facts of events one after another are counted.
abbrev pub AddsAll : List Fact → TableStats → TableStats → Type 0
AddsAll = AddsEach Adds
