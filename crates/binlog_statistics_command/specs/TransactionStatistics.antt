-- What `binlog stats --by transaction` counts, and makes of its output.
use Rattle.std.specs.Prelude.{◌≡◌, ◌⊎◌, ℕ, Bool, true, false, List, Option, Result, Ok, Err}
use Rattle.std.specs.Io.KnownBytes.{Appends}
use Rattle.binlog_wire.specs.declared.error.Error.{Error}
use Rattle.binlog_event_format.specs.Headers.{header_of}
use Rattle.binlog_file.specs.Events.{EventView}
use Rattle.binlog_file.specs.TableMapsInForce.{TableMaps}
use Rattle.binlog_filters.specs.Taking.{is_of_log}
use Rattle.binlog_payload_visits.specs.Parts.{Part}
use Rattle.binlog_statistics.specs.Counting.{CountsItem, CountsPart, end_behind}
use Rattle.binlog_statistics.specs.declared.counter.Counter.{Counter}
use Rattle.change_statistics.specs.Facts.{Fact}
use Rattle.change_statistics.specs.Transactions.{Seen, SeesEvent, ended, is_any_full, seen_by}
use Rattle.change_statistics.specs.declared.transaction_stats.TransactionStats.{TransactionStats}
use Rattle.binlog_cli.specs.Outputs.{written}
use Rattle.binlog_summaries.specs.StatsText.{Writes}
use Rattle.binlog_cli.specs.declared.exit_status.Outcome.{Outcome}
use Rattle.binlog_cli.specs.declared.exit_status.Status.TheVariants.{Failed}
use Rattle.binlog_summaries.specs.TransactionJson.{transactions_json}
use Rattle.binlog_summaries.specs.TransactionText.{IsTransactionsText}
use Rattle.binlog_statistics_command.specs.WrittenRows.{WritesOr}

-- ---- what is counted

-- One more event is seen, and none is.
abbrev pub Sees : TransactionStats → Fact → TransactionStats → Type 0
Sees old fact new = SeesEvent (seen_by old) fact (seen_by new)

abbrev pub KeepsSeen : TransactionStats → TransactionStats → Type 0
KeepsSeen old new = seen_by new ≡ seen_by old

-- The item is an event that belongs to the log and to no transaction.
abbrev pub is_of_no_transaction : Result EventView Error → Bool
is_of_no_transaction (Ok event) = is_of_log (header_of event.frame).event_type
is_of_no_transaction (Err error) = false

-- The transaction that has begun has ended.
abbrev pub EndsTransaction : (old new : Counter TransactionStats) → Type 0
EndsTransaction old new = (seen_by new.stats ≡ ended (seen_by old.stats)) × (new.end_position ≡ old.end_position)

-- An event of no transaction ends the one that has begun; any other item is counted.
abbrev pub CountsBy : (is_outside : Bool) → Counter TransactionStats → TableMaps → Result EventView Error → Counter TransactionStats → Type 0
CountsBy true old maps item new = EndsTransaction old new
CountsBy false old maps item new = CountsItem Sees old.stats maps item new.stats × (new.end_position ≡ end_behind old.end_position item)

abbrev pub CountsTransactions : Counter TransactionStats → TableMaps → Result EventView Error → Counter TransactionStats → Type 0
CountsTransactions old maps item new = CountsBy (is_of_no_transaction item) old maps item new

-- A part of a compressed transaction is counted as one of the event that has that.
abbrev pub CountsPartOf : Counter TransactionStats → TableMaps → Part → Counter TransactionStats → Type 0
CountsPartOf old maps part new = CountsPart Sees old.end_position old.stats maps part new.stats × (new.end_position ≡ old.end_position)

-- ---- what is written

-- How many transactions are kept if no number is asked for.
abbrev pub default_top : ℕ
default_top = 20

-- The text of statistics by transaction, or their lines of JSON, are written.
abbrev pub WritesSeen : (is_json : Bool) → Seen → (old new : Option (List ℕ)) → Type 0
WritesSeen true seen old new = Appends old new (transactions_json seen)
WritesSeen false seen old new = Writes (IsTransactionsText seen) old new

-- Statistics by transaction are written; nothing is if memory ran out, or if one of the largest has rows of more tables than there was room
-- for, and the outcome says so.
abbrev pub WritesEnded : (is_json : Bool) → Seen → Outcome → (old new : Option (List ℕ)) → Type 0
WritesEnded is_json seen outcome old new =
    ((outcome ≡ written Failed) × (new ≡ old)) ⊎ ((is_any_full seen.kept ≡ false) × WritesOr (WritesSeen is_json seen old new) outcome)

-- The last transaction has ended, and the statistics are written.
abbrev pub WritesTransactions : (is_json : Bool) → Seen → Outcome → (old new : Option (List ℕ)) → Type 0
WritesTransactions is_json seen outcome old new = WritesEnded is_json (ended seen) outcome old new

-- The same was seen; the last transaction may have ended.
abbrev pub IsOrHasEnded : (old new : Seen) → Type 0
IsOrHasEnded old new = (new ≡ old) ⊎ (new ≡ ended old)
