-- A visit of an item by a counter of transactions.
use Rattle.std.proofs.Common.{◌≡◌, Bool, true, false, Result, OnOk, sym, subst}
use Rattle.binlog_wire.specs.declared.error.Error.{Error}
use Rattle.binlog_file.specs.Events.{EventView}
use Rattle.binlog_file.specs.TableMapsInForce.{TableMaps}
use Rattle.binlog_statistics.specs.Counting.{CountsItem, end_behind}
use Rattle.binlog_statistics.specs.declared.counter.Counter.{Counter}
use Rattle.change_statistics.specs.declared.transaction_stats.TransactionStats.{TransactionStats}
use Rattle.binlog_statistics_command.specs.TransactionStatistics.{CountsBy, CountsTransactions, EndsTransaction, Sees, is_of_no_transaction}

-- It is an event of no transaction.
pub ended_by : {E : Type 0} (answer : Result (Unit {0}) E) (old : Counter TransactionStats) (maps : TableMaps) (item : Result EventView Error) (new : Counter TransactionStats)
    → is_of_no_transaction item ≡ true → OnOk answer (EndsTransaction old new) → OnOk answer (CountsTransactions old maps item new)
ended_by answer old maps item new is ends = subst (λ (b : Bool). OnOk answer (CountsBy b old maps item new)) (sym is) ends

-- It is another item.
pub counted_by : {E : Type 0} (answer : Result (Unit {0}) E) (old : Counter TransactionStats) (maps : TableMaps) (item : Result EventView Error) (new : Counter TransactionStats)
    → is_of_no_transaction item ≡ false → OnOk answer (CountsItem Sees old.stats maps item new.stats × (new.end_position ≡ end_behind old.end_position item)) → OnOk answer (CountsTransactions old maps item new)
counted_by answer old maps item new is counts = subst (λ (b : Bool). OnOk answer (CountsBy b old maps item new)) (sym is) counts
