-- The counts of several logs.
use Rattle.std.proofs.Common.{◌≡◌, ℕ, ◌+◌, ◌<◌, List, ◌++◌, length, take, get_or, Option, codes, decimal, append_assoc, sym, subst, Result, Ok, Err, OnOk}
use Rattle.std.proofs.lemmas.List.Sums.{sum_by_more}
use Rattle.std.specs.Io.KnownBytes.{Appends}
use Rattle.binlog_undo_command.specs.Undoing.{transactions_in, changes_in}
use Rattle.binlog_undo_command.specs.declared.scanning.ScannedLog.{ScannedLog}
use Rattle.binlog_undo_index.specs.Parts.{parts_of}

pub transactions_more : (logs : List ScannedLog) (i : ℕ) (none log : ScannedLog) → i < length logs → log ≡ get_or logs i none
    → transactions_in (take (i + 1) logs) ≡ transactions_in (take i logs) + length (parts_of log.scan.index).transactions
transactions_more logs i none log within is =
    subst (λ (found : ScannedLog). transactions_in (take (i + 1) logs) ≡ transactions_in (take i logs) + length (parts_of found.scan.index).transactions) (sym is)
    (sum_by_more (λ (log : ScannedLog). length (parts_of log.scan.index).transactions) logs i none within)

pub changes_more : (logs : List ScannedLog) (i : ℕ) (none log : ScannedLog) → i < length logs → log ≡ get_or logs i none
    → changes_in (take (i + 1) logs) ≡ changes_in (take i logs) + length (parts_of log.scan.index).changes
changes_more logs i none log within is =
    subst (λ (found : ScannedLog). changes_in (take (i + 1) logs) ≡ changes_in (take i logs) + length (parts_of found.scan.index).changes) (sym is)
    (sum_by_more (λ (log : ScannedLog). length (parts_of log.scan.index).changes) logs i none within)

-- The line of two counts, from the last piece to the first.
pub line_appended : (old new : Option (List ℕ)) (transactions changes : ℕ) → Appends old new (codes "transactions " ++ (decimal transactions ++ (codes ", row events " ++ (decimal changes ++ codes "\n"))))
    → Appends old new (codes "transactions " ++ decimal transactions ++ codes ", row events " ++ decimal changes ++ codes "\n")
line_appended old new transactions changes appended =
    subst (λ (text : List ℕ). Appends old new text) (simp append_assoc) appended

pub on_any : {T E : Type 0} (result : Result T E) (P : Type 0) → P → OnOk result P
on_any (Ok value) P fact = fact
on_any (Err error) P fact = tt
