-- What `binlog undo` makes of its logs.
use Rattle.std.specs.Prelude.{◌≡◌, ◌⊎◌, ℕ, Bool, true, ◌-◌, ◌^◌, min, List, ◌++◌, length, sum_by, flat_map, Option, codes, decimal}
use Rattle.std.specs.Io.KnownBytes.{Appends}
use Rattle.clap.specs.declared.parser.matches.Found.{Found}
use Rattle.clap.specs.Matches.{one_text}
use Rattle.binlog_cli.specs.TableWords.{texts_given}
use Rattle.change_statistics.specs.RowText.{rows_line}
use Rattle.binlog_undo_command.specs.Descriptions.{HaveOneDescription, HaveDescriptions}
use Rattle.binlog_undo_command.specs.LaterLogs.{LeavesNothing, HasLater}
use Rattle.binlog_undo_command.specs.Options.{StatesFlag}
use Rattle.binlog_undo_command.specs.RowCounts.{CountsRows}
use Rattle.binlog_undo_command.specs.Scanned.{AreUndone, HasRefused}
use Rattle.binlog_undo_command.specs.Written.{WritesLog}
use Rattle.binlog_undo_command.specs.declared.scanning.ScannedLog.{ScannedLog}
use Rattle.binlog_undo_index.specs.Parts.{parts_of}
use Rattle.change_statistics.specs.declared.tables.TableStats.{TableStats}

-- How many transactions of logs are undone, and how many row events.
abbrev pub transactions_in : List ScannedLog → ℕ
transactions_in logs = sum_by (λ (log : ScannedLog). length (parts_of log.scan.index).transactions) logs

abbrev pub changes_in : List ScannedLog → ℕ
changes_in logs = sum_by (λ (log : ScannedLog). length (parts_of log.scan.index).changes) logs

-- The line of these counts.
abbrev pub counts_line : List ScannedLog → List ℕ
counts_line logs =
    codes "transactions " ++ decimal (min (transactions_in logs) (2 ^ 64 - 1)) ++ codes ", row events " ++ decimal (min (changes_in logs) (2 ^ 64 - 1)) ++ codes "\n"

-- Nothing is refused in the logs that the words name, and if all that is undone is to be one transaction, it is under one description.
pub record AreScannedAs {F : Type 0} (bytes : List ℕ → Option (List ℕ)) (has_frames : List ℕ → F → Type 0) (is_at : F → ℕ → List ℕ → Type 0) (found : Found) (is_one : Bool)
    (logs : List ScannedLog) : Type 0 where
  pub undone : AreUndone bytes found (texts_given found (codes "FILE")) logs
  pub flag : StatesFlag (one_text found (codes "one-transaction")) is_one
  pub descriptions : is_one ≡ true → HaveOneDescription has_frames is_at logs

-- Nothing is refused in them, but all that is undone is to be one transaction, and isn't under one description.
pub record HaveOtherDescriptions {F : Type 0} (bytes : List ℕ → Option (List ℕ)) (has_frames : List ℕ → F → Type 0) (is_at : F → ℕ → List ℕ → Type 0) (found : Found) : Type 0 where
  pub logs : List ScannedLog
  pub undone : AreUndone bytes found (texts_given found (codes "FILE")) logs
  pub flag : StatesFlag (one_text found (codes "one-transaction")) true
  pub descriptions : HaveDescriptions has_frames is_at logs

-- Something is refused in them.
abbrev pub AreRefused : {F : Type 0} → (List ℕ → Option (List ℕ)) → (List ℕ → F → Type 0) → (F → ℕ → List ℕ → Type 0) → Found → Type 0
AreRefused bytes has_frames is_at found = HasRefused bytes found (texts_given found (codes "FILE")) ⊎ HaveOtherDescriptions bytes has_frames is_at found

-- Nothing is refused in them, and nothing behind what is undone is in the way of it in them and in the later logs that the words name.
pub record AreUndoneAs {F : Type 0} (bytes : List ℕ → Option (List ℕ)) (has_frames : List ℕ → F → Type 0) (is_at : F → ℕ → List ℕ → Type 0) (found : Found) (is_one : Bool)
    (logs : List ScannedLog) : Type 0 where
  pub scanned : AreScannedAs bytes has_frames is_at found is_one logs
  pub leaves : LeavesNothing bytes has_frames is_at found logs

-- Nothing is refused in them, but something behind what is undone is in the way of it.
pub record HaveLater {F : Type 0} (bytes : List ℕ → Option (List ℕ)) (has_frames : List ℕ → F → Type 0) (is_at : F → ℕ → List ℕ → Type 0) (found : Found) : Type 0 where
  pub is_one : Bool
  pub logs : List ScannedLog
  pub scanned : AreScannedAs bytes has_frames is_at found is_one logs
  pub later : HasLater bytes has_frames is_at found logs

-- Something is refused.
abbrev pub IsRefusedAs : {F : Type 0} → (List ℕ → Option (List ℕ)) → (List ℕ → F → Type 0) → (F → ℕ → List ℕ → Type 0) → Found → Type 0
IsRefusedAs bytes has_frames is_at found = AreRefused bytes has_frames is_at found ⊎ HaveLater bytes has_frames is_at found

-- The counts of logs are written, those of their tables too.
pub record WritesCounts {F : Type 0} (has_frames : List ℕ → F → Type 0) (is_at : F → ℕ → List ℕ → Type 0) (logs : List ScannedLog) (old new : Option (List ℕ)) : Type 0 where
  pub stats : TableStats
  pub rows : CountsRows has_frames is_at logs stats
  pub counts : Appends old new (counts_line logs ++ flat_map rows_line stats.tables.entries)

-- Nothing is refused in the logs that the words name, and their counts are written, those of their tables too. `bytes` are those of the
-- log of a name.
pub record CountsLogs {F : Type 0} (bytes : List ℕ → Option (List ℕ)) (has_frames : List ℕ → F → Type 0) (is_at : F → ℕ → List ℕ → Type 0) (found : Found)
    (old new : Option (List ℕ)) : Type 0 where
  pub is_one : Bool
  pub logs : List ScannedLog
  pub undone : AreUndoneAs bytes has_frames is_at found is_one logs
  pub stats : TableStats
  pub rows : CountsRows has_frames is_at logs stats
  pub counts : Appends old new (counts_line logs ++ flat_map rows_line stats.tables.entries)

-- A file has the log that undoes these logs, and nothing in front of it. `is_fresh` says which bytes it is begun with, and `has` which
-- bytes it has.
pub record PutsLog {F B : Type 0} (has_frames : List ℕ → F → Type 0) (is_at : F → ℕ → List ℕ → Type 0) (contents : B → Option (List ℕ))
    (is_fresh has : Option (List ℕ) → Type 0) (is_one : Bool) (logs : List ScannedLog) : Type 0 where
  pub begun : Option (List ℕ)
  pub fresh : is_fresh begun
  pub written : Option (List ℕ)
  pub writes : WritesLog has_frames is_at contents is_one logs begun written
  pub is : has written

-- Nothing is refused in the logs that the words name, their counts are written, and a file has the log that undoes them.
pub record Undoes {F B : Type 0} (bytes : List ℕ → Option (List ℕ)) (has_frames : List ℕ → F → Type 0) (is_at : F → ℕ → List ℕ → Type 0) (contents : B → Option (List ℕ))
    (is_fresh has : Option (List ℕ) → Type 0) (found : Found) (old new : Option (List ℕ)) : Type 0 where
  pub is_one : Bool
  pub logs : List ScannedLog
  pub undone : AreUndoneAs bytes has_frames is_at found is_one logs
  pub counts : Appends old new (counts_line logs)
  pub puts : PutsLog has_frames is_at contents is_fresh has is_one logs
