-- What is made of a request.
use Rattle.std.specs.Prelude.{◌≡◌, ◌⊎◌, ℕ, List, Option}
use Rattle.binlog_undo_items.specs.Refusals.{AreAllSkipped, fill, refusals_of, undone_of}
use Rattle.binlog_undo_items.specs.Scanned.{IsNoRequest, ScansRequest}
use Rattle.binlog_undo_items.specs.Written.{MakesLog, PutsLog}
use Rattle.binlog_undo_items.specs.declared.failure.UndoFailure.{UndoFailure}
use Rattle.binlog_undo_items.specs.declared.failure.UndoFailure.TheVariants as failures
use Rattle.binlog_undo_items.specs.declared.refusals.BinlogRefusal.{BinlogRefusal}
use Rattle.binlog_undo_items.specs.declared.request.UndoRequest.{UndoRequest}
use Rattle.binlog_undo_items.specs.declared.scanning.ScannedLog.{ScannedLog}
use Rattle.binlog_undo_items.specs.declared.undoing.BinlogUndone.{BinlogUndone}

-- The refusals of these logs are filled in, as many as there is room for, and counted.
abbrev pub NamesRefusals : List ScannedLog → (old new : List BinlogRefusal) → BinlogUndone → Type 0
NamesRefusals logs old new undone = (new ≡ fill (refusals_of logs) old) × (undone ≡ undone_of logs)

-- Nothing is refused in the logs, unless it is skipped, and the log that undoes them is written.
pub record WritesUndoLog {W : Type 0} (contents : W → Option (List ℕ)) (request : UndoRequest) (old_refusals new_refusals : List BinlogRefusal) (undone : BinlogUndone)
    (old new : List ℕ) (answer : ℕ) : Type 0 where
  pub logs : List ScannedLog
  pub scans : ScansRequest request logs
  pub skipped : AreAllSkipped logs
  pub names : NamesRefusals logs old_refusals new_refusals undone
  pub log : List ℕ
  pub makes : MakesLog contents request.options logs log
  pub puts : PutsLog log old new answer

-- Something is refused that isn't skipped.
pub record HasRefused (request : UndoRequest) (old new : List BinlogRefusal) (undone : BinlogUndone) : Type 0 where
  pub logs : List ScannedLog
  pub scans : ScansRequest request logs
  pub refused : AreAllSkipped logs → ⊥
  pub names : NamesRefusals logs old new undone

-- Nothing is refused, but the log isn't made.
pub record IsNotMade (request : UndoRequest) : Type 0 where
  pub logs : List ScannedLog
  pub scans : ScansRequest request logs
  pub skipped : AreAllSkipped logs

-- Why nothing is written, in the order of the errors. What can't be undone is told after `Refused` alone.
abbrev pub FailsUntold : UndoRequest → UndoFailure → Type 0
FailsUntold request failures.Options = IsNoRequest request failures.Options
FailsUntold request failures.EndOfInput = IsNoRequest request failures.EndOfInput
FailsUntold request failures.InvalidFileHeader = IsNoRequest request failures.InvalidFileHeader
FailsUntold request failures.Refused = ⊥
FailsUntold request failures.Memory = Unit {0}
FailsUntold request failures.Description = IsNotMade request
FailsUntold request failures.TooLong = IsNotMade request
FailsUntold request failures.Changed = IsNotMade request

pub record IsUntold (request : UndoRequest) (failure : UndoFailure) (old_refusals new_refusals : List BinlogRefusal) (old new : BinlogUndone) : Type 0 where
  pub fails : FailsUntold request failure
  pub refusals : new_refusals ≡ old_refusals
  pub undone : new ≡ old

abbrev pub IsFailure : UndoRequest → UndoFailure → (old_refusals new_refusals : List BinlogRefusal) → (old new : BinlogUndone) → Type 0
IsFailure request failures.Refused old_refusals new_refusals old new = HasRefused request old_refusals new_refusals new
IsFailure request failure old_refusals new_refusals old new = IsUntold request failure old_refusals new_refusals old new
