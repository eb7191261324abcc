-- The counts of several logs.
use Rattle.std.proofs.Common.{◌≡◌, ℕ, ◌+◌, ◌<◌, List, length, take, get_or, sym, subst}
use Rattle.std.proofs.lemmas.List.Sums.{sum_by_more}
use Rattle.binlog_undo_items.specs.Refusals.{transactions_in, changes_in}
use Rattle.binlog_undo_items.specs.declared.scanning.ScannedLog.{ScannedLog}
use Rattle.binlog_undo_index.specs.Parts.{parts_of}

pub transactions_more : (logs : List ScannedLog) (i : ℕ) (none log : ScannedLog) → i < length logs → log ≡ get_or logs i none
    → transactions_in (take (i + 1) logs) ≡ transactions_in (take i logs) + length (parts_of log.scan.index).transactions
transactions_more logs i none log within is =
    subst (λ (found : ScannedLog). transactions_in (take (i + 1) logs) ≡ transactions_in (take i logs) + length (parts_of found.scan.index).transactions) (sym is)
    (sum_by_more (λ (log : ScannedLog). length (parts_of log.scan.index).transactions) logs i none within)

pub changes_more : (logs : List ScannedLog) (i : ℕ) (none log : ScannedLog) → i < length logs → log ≡ get_or logs i none
    → changes_in (take (i + 1) logs) ≡ changes_in (take i logs) + length (parts_of log.scan.index).changes
changes_more logs i none log within is =
    subst (λ (found : ScannedLog). changes_in (take (i + 1) logs) ≡ changes_in (take i logs) + length (parts_of found.scan.index).changes) (sym is)
    (sum_by_more (λ (log : ScannedLog). length (parts_of log.scan.index).changes) logs i none within)
