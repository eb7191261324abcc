-- Statistics of the events that are in transactions.
use Rattle.std.specs.Prelude.{◌≡◌, ℕ, Bool, true, false, List, [], ◌∷◌, Result, Ok, Err}
use Rattle.binlog_wire.specs.declared.error.Error.{Error}
use Rattle.binlog_event_format.specs.Headers.{header_of}
use Rattle.binlog_file.specs.Events.{EventView}
use Rattle.binlog_file.specs.TableMapsInForce.{TableMaps}
use Rattle.binlog_visits.specs.TableMaps.{maps_behind}
use Rattle.binlog_filters.specs.Taking.{begins_transaction, is_of_log}
use Rattle.binlog_statistics.specs.ItemFacts.{AreFactsIf}
use Rattle.change_statistics.specs.Facts.{Fact}
use Rattle.change_statistics.specs.Transactions.{Seen}
use Rattle.change_statistics.specs.WholeTransactions.{AreTransactionStats}

-- Whether an event is in a transaction, where `was` says whether one has begun before it: one of the log is in none, and ends it.
abbrev pub within_by : (is_of_log begins was : Bool) → Bool
within_by true begins was = false
within_by false true was = true
within_by false false was = was

-- The same of an item. An error changes nothing.
abbrev pub is_within : (was : Bool) → Result EventView Error → Bool
is_within was (Ok event) = within_by (is_of_log (header_of event.frame).event_type) (begins_transaction (header_of event.frame).event_type) was
is_within was (Err error) = was

-- The facts of the events in transactions, of items one after another. `was` says whether a transaction has begun before the first one, and
-- these table maps are in force there.
abbrev pub AreFactsWithin : (was : Bool) → TableMaps → List (Result EventView Error) → List Fact → Type 0
AreFactsWithin was maps [] facts = facts ≡ []
AreFactsWithin was maps (item ∷ items) facts =
    (others : List Fact) × AreFactsWithin (is_within was item) (maps_behind maps item) items others × AreFactsIf (is_within was item) (maps_behind maps item) item others facts

-- The statistics are those of the transactions of items, of which at most `limit` are kept: of their events that are in one.
pub record AreOfTransactions (limit : ℕ) (maps : TableMaps) (items : List (Result EventView Error)) (seen : Seen) : Type 0 where
  pub facts : List Fact
  pub within : AreFactsWithin false maps items facts
  pub counted : AreTransactionStats limit facts seen
