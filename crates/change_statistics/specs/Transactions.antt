-- Counting transactions, event by event.
use Rattle.std.specs.Prelude.{◌≡◌, ℕ, ◌-◌, Bool, List, [], length, take, insert, position, slice_index, slice_set, replicate, Option, Some, None, unwrap_or, option_map, nat_lt, nat_le, if◌then◌else◌}
use Rattle.std.specs.List.{list_any}
use Rattle.std.specs.Int.{w64, leading_zeros}
use Rattle.change_statistics.specs.Counting.{counted, AddsEach}
use Rattle.change_statistics.specs.EventCounting.{no_event_counts, with_event}
use Rattle.change_statistics.specs.Facts.{Fact, begin_of}
use Rattle.change_statistics.specs.TransactionTables.{no_tables, with_tables}
use Rattle.change_statistics.specs.declared.transaction.Transaction.{Transaction}
use Rattle.change_statistics.specs.declared.transaction_stats.TransactionStats.{TransactionStats}

-- ---- one transaction

-- The transaction that begins with this event, so far.
abbrev pub begun : Fact → Transaction
begun fact = record {
  gtid = fact.gtid;
  begin_position = begin_of fact;
  end_position = fact.end;
  counts = with_event no_event_counts fact.bytes fact;
  first_time = fact.time;
  last_time = fact.time;
  tables = with_tables no_tables fact;
}

-- The transaction with one more event.
abbrev pub extended : Transaction → Fact → Transaction
extended transaction fact = record transaction {
  end_position = fact.end;
  counts = with_event transaction.counts fact.bytes fact;
  last_time = fact.time;
  tables = with_tables transaction.tables fact;
}

-- The seconds from the time of its first event to that of its last one; None if that one is earlier.
abbrev pub duration_of : Transaction → Option ℕ
duration_of transaction = if nat_le transaction.first_time transaction.last_time then Some (transaction.last_time - transaction.first_time) else None

-- ---- those that are kept

-- The first has fewer bytes than the other.
abbrev pub is_smaller : Transaction → Transaction → Bool
is_smaller transaction other = nat_lt transaction.counts.bytes other.counts.bytes

-- The place of a transaction among others, of which those with most bytes come first: before the first one that is smaller.
abbrev pub place_among : Transaction → List Transaction → ℕ
place_among transaction others = unwrap_or (position (λ (other : Transaction). is_smaller other transaction) others) (length others)

-- These with one more, and not more than the limit.
abbrev pub kept_with : (limit : ℕ) → Transaction → List Transaction → List Transaction
kept_with limit transaction kept = take limit (insert kept (place_among transaction kept) transaction)

-- One of them has rows of more tables than there was room for.
abbrev pub is_any_full : List Transaction → Bool
is_any_full kept = list_any (λ (transaction : Transaction). transaction.tables.is_full) kept

-- ---- their sizes

-- The number of the binary digits of a size.
abbrev pub class_of : ℕ → ℕ
class_of bytes = 64 - leading_zeros w64 bytes

-- The numbers of transactions of each class, with one more of this size.
abbrev pub sizes_with : (bytes : ℕ) → List ℕ → List ℕ
sizes_with bytes sizes = slice_set sizes (class_of bytes) (counted (slice_index sizes (class_of bytes)) 1)

-- ---- all

-- What is counted: the transaction that has begun, the number of those before it, the largest of them, and their sizes.
pub record Seen : Type 0 where
  pub current : Option Transaction
  pub transactions : ℕ
  pub limit : ℕ
  pub kept : List Transaction
  pub sizes : List ℕ

abbrev pub seen_by : TransactionStats → Seen
seen_by stats = record {
  current = stats.current;
  transactions = stats.transactions;
  limit = stats.largest.limit;
  kept = stats.largest.kept.items;
  sizes = stats.sizes.counts;
}

-- No event was seen.
abbrev pub none_seen : (limit : ℕ) → Seen
none_seen limit = record { current = None; transactions = 0; limit = limit; kept = []; sizes = replicate 65 0 }

-- A transaction has ended.
abbrev pub counted_one : Transaction → Seen → Seen
counted_one transaction seen = record {
  current = None;
  transactions = counted seen.transactions 1;
  limit = seen.limit;
  kept = kept_with seen.limit transaction seen.kept;
  sizes = sizes_with transaction.counts.bytes seen.sizes;
}

abbrev pub ended_as : Option Transaction → Seen → Seen
ended_as None seen = seen
ended_as (Some transaction) seen = counted_one transaction seen

-- The transaction that has begun has ended.
abbrev pub ended : Seen → Seen
ended seen = ended_as seen.current seen

-- One more event is in the transaction that has begun, if there is one.
abbrev pub with_current : Seen → Fact → Seen
with_current seen fact = record seen { current = option_map (λ (transaction : Transaction). extended transaction fact) seen.current }

-- What is counted behind one more event.
abbrev pub added : Seen → Fact → Seen
added seen fact = if fact.begins then record (ended seen) { current = Some (begun fact) } else with_current seen fact

-- One more event is seen.
abbrev pub SeesEvent : Seen → Fact → Seen → Type 0
SeesEvent old fact new = new ≡ added old fact

-- Events one after another are seen.
abbrev pub SeesAll : List Fact → Seen → Seen → Type 0
SeesAll = AddsEach SeesEvent
