-- Transactions, event by event.
use Rattle.std.proofs.Common.{◌≡◌, ◌<◌, ◌^◌, Bool, true, false, cond, List, [], ◌∷◌, ◌++◌, Some, refl, sym, subst, arith, append_assoc, append-nil}
use Rattle.std.specs.Prelude.{slice_get, option_map}
use Rattle.change_statistics.specs.EventCounting.{no_event_counts}
use Rattle.change_statistics.specs.Facts.{Fact, begin_of}
use Rattle.change_statistics.specs.Transactions.{begun, extended}
use Rattle.change_statistics.specs.TransactionTables.{no_tables}
use Rattle.change_statistics.specs.WholeCounts.{bytes, time, until_begin, transactions_in}
use Rattle.change_statistics.specs.WholeTransactions.{gtid_of, end_of, IsTransactionOf, AreTransactionsOf}
use Rattle.change_statistics.specs.declared.transaction.Transaction.{Transaction}
use Rattle.change_statistics.proofs.CountedEvents.{none_counted, one_counted}
use Rattle.change_statistics.proofs.CountedTables.{no_tables_counted, tables_counted}
use Rattle.change_statistics.proofs.MoreCounted.{last_more}

-- The transaction with more events.
abbrev pub grown : Transaction → List Fact → Transaction
grown transaction [] = transaction
grown transaction (event ∷ events) = grown (extended transaction event) events

-- The transactions of events.
abbrev pub all_of : List Fact → List Transaction
all_of [] = []
all_of (event ∷ events) = cond event.begins (grown (begun event) (until_begin events) ∷ all_of events) (all_of events)

first_kept : {X Y : Type 0} (f : X → Y) (xs : List X) (x : X) (y : Y) → Some y ≡ option_map f (slice_get xs 0) → Some y ≡ option_map f (slice_get (xs ++ x ∷ []) 0)
first_kept f [] x y is = absurd cc
first_kept f (first ∷ xs) x y is = is

first_is : (event : Fact) → IsTransactionOf (event ∷ []) (begun event)
first_is event = record {
  counts = one_counted bytes [] event no_event_counts (none_counted bytes);
  gtid = refl;
  begin_position = refl;
  end_position = refl;
  first_time = refl;
  last_time = refl;
  tables = tables_counted [] event no_tables (λ room. no_tables_counted);
}

one_more : (before : List Fact) (event : Fact) (transaction : Transaction) → IsTransactionOf before transaction → IsTransactionOf (before ++ event ∷ []) (extended transaction event)
one_more before event transaction was = record {
  counts = one_counted bytes before event transaction.counts was.counts;
  gtid = first_kept gtid_of before event transaction.gtid was.gtid;
  begin_position = first_kept begin_of before event transaction.begin_position was.begin_position;
  end_position = last_more end_of before event;
  first_time = first_kept time before event transaction.first_time was.first_time;
  last_time = last_more time before event;
  tables = tables_counted before event transaction.tables was.tables;
}

grown_is : (before events : List Fact) (transaction : Transaction) → IsTransactionOf before transaction → IsTransactionOf (before ++ events) (grown transaction events)
grown_is before [] transaction was = subst (λ (l : List Fact). IsTransactionOf l transaction) (sym (append-nil before)) was
grown_is before (event ∷ events) transaction was =
    subst (λ (l : List Fact). IsTransactionOf l (grown (extended transaction event) events)) (append_assoc before (event ∷ []) events)
    (grown_is (before ++ event ∷ []) events (extended transaction event) (one_more before event transaction was))

pub all_are : (events : List Fact) → AreTransactionsOf (transactions_in events) (all_of events)
all_are [] = refl
all_are (event ∷ events) = by event.begins (all_are events)
  where
    by : (b : Bool) → AreTransactionsOf (transactions_in events) (all_of events)
        → AreTransactionsOf (cond b ((event ∷ until_begin events) ∷ transactions_in events) (transactions_in events)) (cond b (grown (begun event) (until_begin events) ∷ all_of events) (all_of events))
    by true rest = (grown (begun event) (until_begin events), all_of events, grown_is (event ∷ []) (until_begin events) (begun event) (first_is event), rest, refl)
    by false rest = rest

-- Each has fewer than 2^64 bytes: its count stays there.
abbrev pub AreSmall : List Transaction → Type 0
AreSmall [] = Unit {0}
AreSmall (transaction ∷ transactions) = (transaction.counts.bytes < 2 ^ 64) × AreSmall transactions

pub all_small : (groups : List (List Fact)) (transactions : List Transaction) → AreTransactionsOf groups transactions → AreSmall transactions
all_small [] transactions none = subst AreSmall (sym none) tt
all_small (events ∷ groups) transactions (transaction, rest, is, are, all) =
    subst AreSmall (sym all) (omega (arith, is.counts.bytes), all_small groups rest are)
