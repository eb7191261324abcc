-- The log that undoes logs in memory.
use Rattle.std.specs.Prelude.{◌≡◌, ◌≢◌, ◌⊎◌, ℕ, Bool, true, false, List, [], ◌∷◌, ◌++◌, length, drop, nat_lt, Option, Some, None, if◌then◌else◌}
use Rattle.std.specs.List.{AllByRecursion}
use Rattle.binlog_events.specs.FileHeader.{file_header}
use Rattle.binlog_undo_index.specs.Parts.{parts_of}
use Rattle.binlog_undo_items.specs.Options.{is_one}
use Rattle.binlog_undo_items.specs.declared.options.BinlogUndoOptions.{BinlogUndoOptions}
use Rattle.binlog_undo_items.specs.declared.scanning.ScannedLog.{ScannedLog}
use Rattle.binlog_undo_log.specs.Places.{IsFrameIn}
use Rattle.binlog_undo_log.specs.Files.{WritesFile}
use Rattle.binlog_undo_log.specs.OneTransaction.{BeginsOne}
use Rattle.binlog_undo_log.specs.Output.{Pushes}
use Rattle.binlog_undo_log.specs.Undoing.{commit_event}
use Rattle.binlog_undo_log.specs.declared.one_transaction.Commit.{Commit}
use Rattle.binlog_undo_log.specs.declared.output.UndoOutput.{UndoOutput}

-- No transaction of a log is undone, or none of any of these logs.
abbrev pub IsKept : ScannedLog → Type 0
IsKept log = (parts_of log.scan.index).transactions ≡ []

abbrev pub AreAllKept : List ScannedLog → Type 0
AreAllKept logs = AllByRecursion IsKept logs

-- The log is the last one of which a transaction is undone.
pub record IsLastUndone (logs : List ScannedLog) (log : ScannedLog) : Type 0 where
  pub front : List ScannedLog
  pub behind : List ScannedLog
  pub are : logs ≡ front ++ log ∷ behind
  pub kept : AreAllKept behind
  pub undone : (parts_of log.scan.index).transactions ≢ []

-- `contents` are the bytes of a writer.
module _ {W : Type 0} (contents : W → Option (List ℕ)) where
  -- What undoes a log is written: the events that are read at the places in its bytes are undone.
  abbrev pub WritesOne : ScannedLog → UndoOutput W → UndoOutput W → Type 0
  WritesOne log old new = WritesFile contents (IsFrameIn log.bytes.now) log.scan old new

  -- What undoes the logs is written, the last one first.
  abbrev pub WritesLogs : List ScannedLog → UndoOutput W → UndoOutput W → Type 0
  WritesLogs [] old new = new ≡ old
  WritesLogs (log ∷ logs) old new = (mid : UndoOutput W) × WritesLogs logs old mid × WritesOne log mid new

  -- So it is between a BEGIN and an XID by the last event of the last transaction that is undone.
  pub record WritesWithin (logs : List ScannedLog) (old new : UndoOutput W) : Type 0 where
    pub last : ScannedLog
    pub is_last : IsLastUndone logs last
    pub commit : Commit
    pub begun : UndoOutput W
    pub begins : BeginsOne contents (IsFrameIn last.bytes.now) last.scan commit old begun
    pub undone : UndoOutput W
    pub undoes : WritesLogs logs begun undone
    pub ends : Pushes contents (commit_event commit.header commit.xid ∷ []) undone new

  -- All is one transaction, if something is undone.
  abbrev pub WritesAsOne : List ScannedLog → UndoOutput W → UndoOutput W → Type 0
  WritesAsOne logs old new = (AreAllKept logs × (new ≡ old)) ⊎ WritesWithin logs old new

  abbrev pub WritesAs : Bool → List ScannedLog → UndoOutput W → UndoOutput W → Type 0
  WritesAs true logs old new = WritesAsOne logs old new
  WritesAs false logs old new = WritesLogs logs old new

  -- The log is the file header, and behind it what undoes the logs.
  pub record MakesLog (options : BinlogUndoOptions) (logs : List ScannedLog) (log : List ℕ) : Type 0 where
    pub start : W
    pub begins : contents start ≡ Some file_header
    pub end : UndoOutput W
    pub writes : WritesAs (is_one options) logs (record { writer = start; place = 4; has_checksums = false; has_bounds = true; description = None }) end
    pub ends : contents end.writer ≡ Some log

-- The log is written if there is room for all of it; the bytes behind it are unchanged. The answer is its length.
abbrev pub PutsLog : List ℕ → (old new : List ℕ) → ℕ → Type 0
PutsLog log old new answer = (answer ≡ length log) × (new ≡ (if nat_lt (length old) (length log) then old else log ++ drop (length log) old))
