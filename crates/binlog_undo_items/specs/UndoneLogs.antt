-- What is written for logs in memory is the inverse of their changes.
use Rattle.std.specs.Prelude.{◌≡◌, ℕ, ◌+◌, ◌==◌, Bool, List, [], ◌∷◌, Option}
use Rattle.binlog_undo_items.specs.Options.{skips_of}
use Rattle.binlog_undo_items.specs.Scanned.{StatesScan}
use Rattle.binlog_undo_items.specs.declared.request.UndoRequest.{UndoRequest}
use Rattle.binlog_undo_items.specs.declared.scanning.ScannedLog.{ScannedLog}
use Rattle.binlog_undo_log.specs.Choices.{rules_of}
use Rattle.binlog_undo_log.specs.FileChanges.{UndoesFile}
use Rattle.binlog_undo_log.specs.declared.output.UndoOutput.{UndoOutput}
use Rattle.binlog_undo_log.specs.declared.scan.UndoScan.{UndoScan}

-- A log is undone as it is asked for.
pub record UndoesLog {W : Type 0} (contents : W → Option (List ℕ)) (request : UndoRequest) (is_first is_last : Bool) (log : ScannedLog) (old new : UndoOutput W) : Type 0 where
  pub start : UndoScan
  pub states : StatesScan request is_first is_last start
  pub undoes : UndoesFile contents (rules_of states.choice (skips_of request.options)) log.bytes.now start log.scan old new

-- Each log is undone, the last one first. The first one has this index of so many logs.
abbrev pub UndoesLogs : {W : Type 0} → (W → Option (List ℕ)) → UndoRequest → (count index : ℕ) → List ScannedLog → UndoOutput W → UndoOutput W → Type 0
UndoesLogs {W} contents request count index [] old new = new ≡ old
UndoesLogs {W} contents request count index (log ∷ logs) old new =
    (mid : UndoOutput W) × UndoesLogs contents request count (index + 1) logs old mid × UndoesLog contents request (index == 0) (index + 1 == count) log mid new
