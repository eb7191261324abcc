-- The statistics by transaction of whole lists of events.
use Rattle.std.specs.Prelude.{◌≡◌, ◌≢◌, ℕ, ◌+◌, ◌*◌, ◌<◌, ◌^◌, ◌&&◌, Bool, List, [], ◌∷◌, length, take, slice_index, count_by, Some, false, option_map, nat_lt, nat_le, MatchOption}
use Rattle.std.specs.List.{IsDistinct}
use Rattle.std.specs.Map.{lookup, keys_of}
use Rattle.std.specs.List.Sorted.{IsPermutation, IsSortedBy, IsStableBy}
use Rattle.change_statistics.specs.Facts.{Name, Fact, begin_of}
use Rattle.change_statistics.specs.Counting.{saturated}
use Rattle.change_statistics.specs.Names.{name_eq}
use Rattle.change_statistics.specs.Transactions.{is_smaller, Seen}
use Rattle.change_statistics.specs.WholeCounts.{bytes, size, time, of_table, transactions_in, first_of, last_of}
use Rattle.change_statistics.specs.WholeEvents.{AreEventCounts}
use Rattle.change_statistics.specs.declared.event_counts.EventCounts.{EventCounts}
use Rattle.change_statistics.specs.declared.transaction.Transaction.{Transaction}

-- ---- the transactions

abbrev pub gtid_of : Fact → List ℕ
gtid_of fact = fact.gtid

abbrev pub end_of : Fact → ℕ
end_of fact = fact.end

-- These are the tables of which the events have rows, each once, and what is counted of those of each.
pub record AreTablesOf (facts : List Fact) (entries : List (Name × EventCounts)) : Type 0 where
  pub tables : (name : Name) → MatchOption (lookup (name_eq name) entries) (of_table name facts ≡ []) (λ counts. (of_table name facts ≢ []) × AreEventCounts size (of_table name facts) counts)
  pub once : IsDistinct name_eq (keys_of entries)

-- What is counted of these events, the GTID of the first one, and where and when that begins and the last one ends.
pub record IsTransactionOf (facts : List Fact) (transaction : Transaction) : Type 0 where
  pub gtid : Some transaction.gtid ≡ option_map gtid_of (first_of facts)
  pub counts : AreEventCounts bytes facts transaction.counts
  pub begin_position : Some transaction.begin_position ≡ option_map begin_of (first_of facts)
  pub end_position : Some transaction.end_position ≡ option_map end_of (last_of facts)
  pub first_time : Some transaction.first_time ≡ option_map time (first_of facts)
  pub last_time : Some transaction.last_time ≡ option_map time (last_of facts)
  pub tables : transaction.tables.is_full ≡ false → AreTablesOf facts transaction.tables.entries

-- Each is one of these, in order.
abbrev pub AreTransactionsOf : List (List Fact) → List Transaction → Type 0
AreTransactionsOf [] transactions = transactions ≡ []
AreTransactionsOf (facts ∷ others) transactions =
    (transaction : Transaction) × (rest : List Transaction) × IsTransactionOf facts transaction × AreTransactionsOf others rest × (transactions ≡ transaction ∷ rest)

-- ---- the largest

-- The first has more bytes than the other.
abbrev pub is_larger : Transaction → Transaction → Bool
is_larger transaction other = is_smaller other transaction

-- They are the first ones, as many as the limit, of all transactions sorted: those with most bytes first, and those with equally many in
-- the order in which they came.
pub record AreLargest (limit : ℕ) (all kept : List Transaction) : Type 0 where
  pub sorted : List Transaction
  pub same : IsPermutation all sorted
  pub is_sorted : IsSortedBy is_larger sorted
  pub stable : IsStableBy is_larger all sorted
  pub are : kept ≡ take limit sorted

-- ---- sizes

-- The bytes have so many binary digits.
abbrev pub is_of_class : (class : ℕ) → Transaction → Bool
is_of_class class transaction = nat_lt transaction.counts.bytes (2 ^ class) && nat_le (2 ^ class) (2 * transaction.counts.bytes + 1)

-- ---- the statistics

-- The statistics are those of the transactions of the events.
pub record AreTransactionStats (limit : ℕ) (facts : List Fact) (seen : Seen) : Type 0 where
  pub all : List Transaction
  pub are : AreTransactionsOf (transactions_in facts) all
  pub transactions : seen.transactions ≡ saturated (length all)
  pub largest : AreLargest limit all seen.kept
  pub sizes : (class : ℕ) → class < 65 → slice_index seen.sizes class ≡ saturated (count_by (is_of_class class) all)
