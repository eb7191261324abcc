-- What can't be undone, as plain numbers, and what is undone.
use Rattle.std.specs.Prelude.{◌≡◌, ℕ, ◌+◌, ◌-◌, ◌^◌, min, Bool, true, false, List, [], ◌∷◌, ◌++◌, map, length, take, drop, sum_by}
use Rattle.std.specs.List.{AllByRecursion}
use Rattle.binlog_undo_index.specs.Parts.{parts_of}
use Rattle.binlog_undo_index.specs.declared.reason.Reason.{Reason}
use Rattle.binlog_undo_index.specs.declared.reason.Reason.TheVariants as reasons
use Rattle.binlog_undo_index.specs.declared.reason.Refused.{Refused}
use Rattle.binlog_undo_items.specs.Options.{reason_number}
use Rattle.binlog_undo_items.specs.declared.refusals.BinlogRefusal.{BinlogRefusal}
use Rattle.binlog_undo_items.specs.declared.scanning.ScannedLog.{ScannedLog}
use Rattle.binlog_undo_items.specs.declared.undoing.BinlogUndone.{BinlogUndone}
use Rattle.binlog_undo_log.specs.Files.{AreSkipped}

-- The place behind a transaction that a position is within; 0 for any other reason.
abbrev pub end_of : Reason → ℕ
end_of (reasons.Straddles end) = end
end_of reason = 0

abbrev pub flag_of : Bool → ℕ
flag_of true = 1
flag_of false = 0

-- A refusal in the log with this number.
abbrev pub refusal_of : ℕ → Refused → BinlogRefusal
refusal_of log refused = record {
  log = log;
  index = refused.index;
  position = refused.place;
  end = end_of refused.reason;
  reason = reason_number refused.reason;
  is_skipped = flag_of refused.is_skipped;
}

abbrev pub AddsRefusals : ℕ → List Refused → (old new : List BinlogRefusal) → Type 0
AddsRefusals log refusals old new = new ≡ old ++ map (refusal_of log) refusals

-- The refusals of logs, in order, of which the first one has this number.
abbrev pub refusals_from : ℕ → List ScannedLog → List BinlogRefusal
refusals_from number [] = []
refusals_from number (log ∷ logs) = map (refusal_of number) (parts_of log.scan.index).refusals ++ refusals_from (number + 1) logs

abbrev pub refusals_of : List ScannedLog → List BinlogRefusal
refusals_of logs = refusals_from 0 logs

-- Nothing is refused in any of the logs, unless it is skipped.
abbrev pub AreAllSkipped : List ScannedLog → Type 0
AreAllSkipped logs = AllByRecursion (λ (log : ScannedLog). AreSkipped (parts_of log.scan.index).refusals) logs

-- As many of them as there is room for, and behind them what was there.
abbrev pub fill : List BinlogRefusal → List BinlogRefusal → List BinlogRefusal
fill all old = take (length old) all ++ drop (length all) old

-- How many transactions of logs are undone, and how many row events.
abbrev pub transactions_in : List ScannedLog → ℕ
transactions_in logs = sum_by (λ (log : ScannedLog). length (parts_of log.scan.index).transactions) logs

abbrev pub changes_in : List ScannedLog → ℕ
changes_in logs = sum_by (λ (log : ScannedLog). length (parts_of log.scan.index).changes) logs

-- These counts, and how many refusals there are.
abbrev pub undone_of : List ScannedLog → BinlogUndone
undone_of logs = record {
  transactions = min (transactions_in logs) (2 ^ 64 - 1);
  row_events = min (changes_in logs) (2 ^ 64 - 1);
  refusals = length (refusals_of logs);
}
