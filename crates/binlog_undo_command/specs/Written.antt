-- The log that undoes several logs.
use Rattle.std.specs.Prelude.{◌≡◌, ℕ, Bool, true, false, List, [], ◌∷◌, ◌++◌, Option, Some, None}
use Rattle.std.specs.List.{AllByRecursion}
use Rattle.std.specs.Io.KnownBytes.{Appends, Keeps}
use Rattle.binlog_events.specs.FileHeader.{file_header}
use Rattle.binlog_undo_command.specs.Descriptions.{HasNone}
use Rattle.binlog_undo_command.specs.declared.scanning.ScannedLog.{ScannedLog}
use Rattle.binlog_undo_log.specs.Files.{WritesFile}
use Rattle.binlog_undo_log.specs.OneTransaction.{BeginsOne}
use Rattle.binlog_undo_log.specs.Output.{Pushes}
use Rattle.binlog_undo_log.specs.Undoing.{commit_event}
use Rattle.binlog_undo_log.specs.declared.one_transaction.Commit.{Commit}
use Rattle.binlog_undo_log.specs.declared.output.UndoOutput.{UndoOutput}

-- `has_frames` says which frames the log of a name has, and `contents` which bytes a writer has.
module _ {F W : Type 0} (has_frames : List ℕ → F → Type 0) (is_at : F → ℕ → List ℕ → Type 0) (contents : W → Option (List ℕ)) where
  -- What undoes a log is written.
  pub record WritesOne (log : ScannedLog) (old new : UndoOutput W) : Type 0 where
    pub frames : F
    pub are : has_frames log.name.now frames
    pub writes : WritesFile contents (is_at frames) log.scan old new

  -- What undoes the logs is written, the last one first.
  abbrev pub WritesLogs : List ScannedLog → UndoOutput W → UndoOutput W → Type 0
  WritesLogs [] old new = new ≡ old
  WritesLogs (log ∷ logs) old new = (mid : UndoOutput W) × WritesLogs logs old mid × WritesOne log mid new

  -- ---- all that is undone as one transaction

  -- It begins by the last transaction of a log that is undone.
  pub record BeginsBy (commit : Commit) (log : ScannedLog) (old new : UndoOutput W) : Type 0 where
    pub frames : F
    pub are : has_frames log.name.now frames
    pub begins : BeginsOne contents (is_at frames) log.scan commit old new

  -- The log is the last one in which something is undone.
  pub record BeginsByLast (commit : Commit) (logs : List ScannedLog) (old new : UndoOutput W) : Type 0 where
    pub front : List ScannedLog
    pub log : ScannedLog
    pub rest : List ScannedLog
    pub split : logs ≡ front ++ log ∷ rest
    pub none : AllByRecursion HasNone rest
    pub begins : BeginsBy commit log old new

  -- Nothing is begun if nothing is undone.
  abbrev pub BeginsLogs : Option Commit → List ScannedLog → UndoOutput W → UndoOutput W → Type 0
  BeginsLogs None logs old new = AllByRecursion HasNone logs × (new ≡ old)
  BeginsLogs (Some commit) logs old new = BeginsByLast commit logs old new

  -- The transaction ends by the event by which it begins. `writes` is what is between.
  abbrev pub EndsLogs : (writes : UndoOutput W → UndoOutput W → Type 0) → Option Commit → UndoOutput W → UndoOutput W → Type 0
  EndsLogs writes None old new = new ≡ old
  EndsLogs writes (Some commit) old new = (mid : UndoOutput W) × writes old mid × Pushes contents (commit_event commit.header commit.xid ∷ []) mid new

  -- All is one transaction: a BEGIN, what is between, and an XID; nothing, if nothing is undone.
  pub record IsOneTransaction (writes : UndoOutput W → UndoOutput W → Type 0) (logs : List ScannedLog) (old new : UndoOutput W) : Type 0 where
    pub commit : Option Commit
    pub begun : UndoOutput W
    pub begins : BeginsLogs commit logs old begun
    pub ends : EndsLogs writes commit begun new

  abbrev pub WritesOneTransaction : List ScannedLog → UndoOutput W → UndoOutput W → Type 0
  WritesOneTransaction logs old new = IsOneTransaction (WritesLogs logs) logs old new

  -- ---- the whole

  -- What undoes the logs is written: as one transaction, or as those of the logs.
  abbrev pub WritesAll : (is_one : Bool) → List ScannedLog → UndoOutput W → UndoOutput W → Type 0
  WritesAll true logs old new = WritesOneTransaction logs old new
  WritesAll false logs old new = WritesLogs logs old new

  -- The file header is written, and behind it what undoes the logs.
  pub record WritesWhole (is_one : Bool) (logs : List ScannedLog) (old new : UndoOutput W) : Type 0 where
    pub begun : W
    pub header : Appends (contents old.writer) (contents begun) file_header
    pub undoes : WritesAll is_one logs (record old { writer = begun }) new

-- The log is written behind the bytes that a writer has, from the file header on. `contents` are the bytes of a buffer in front of it.
pub record WritesLog {F B : Type 0} (has_frames : List ℕ → F → Type 0) (is_at : F → ℕ → List ℕ → Type 0) (contents : B → Option (List ℕ)) (is_one : Bool)
    (logs : List ScannedLog) (old new : Option (List ℕ)) : Type 0 where
  pub start : B
  pub begins : contents start ≡ old
  pub end : UndoOutput B
  pub whole : WritesWhole has_frames is_at contents is_one logs (record { writer = start; place = 4; has_checksums = false; has_bounds = true; description = None }) end
  pub ends : Keeps (contents end.writer) new
