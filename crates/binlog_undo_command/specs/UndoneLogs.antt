-- What is written for logs is the inverse of their changes.
use Rattle.std.specs.Prelude.{◌≡◌, ℕ, Bool, true, false, ◌+◌, ◌<◌, ◌^◌, List, [], ◌∷◌, length, Option, Some, IfSome}
use Rattle.clap.specs.declared.parser.matches.Found.{Found}
use Rattle.binlog_undo_command.specs.LogPlaces.{place_at}
use Rattle.binlog_undo_command.specs.Options.{StatesScan}
use Rattle.binlog_undo_command.specs.Written.{IsOneTransaction}
use Rattle.binlog_undo_command.specs.declared.log_place.LogPlace.{LogPlace}
use Rattle.binlog_undo_command.specs.declared.scanning.ScannedLog.{ScannedLog}
use Rattle.binlog_undo_log.specs.Choices.{rules_of}
use Rattle.binlog_undo_log.specs.FileChanges.{AreFramesOf, UndoesFile}
use Rattle.binlog_undo_log.specs.declared.output.UndoOutput.{UndoOutput}
use Rattle.binlog_undo_log.specs.declared.scan.UndoScan.{UndoScan}

-- The frames that are sought of a log are those of its bytes, where they are known.
abbrev pub HaveFrames : {F : Type 0} → (List ℕ → Option (List ℕ)) → (List ℕ → F → Type 0) → (F → ℕ → List ℕ → Type 0) → Type 0
HaveFrames {F} bytes has_frames is_at = (name : List ℕ) (known : List ℕ) (frames : F) → bytes name ≡ Some known → has_frames name frames → AreFramesOf known (is_at frames)

-- A log at this place of these bytes is undone as the options ask for it.
pub record UndoesKnown {W : Type 0} (contents : W → Option (List ℕ)) (found : Found) (place : LogPlace) (known : List ℕ) (scan : UndoScan) (old new : UndoOutput W) : Type 0 where
  pub start : UndoScan
  pub states : StatesScan place found start
  pub undoes : UndoesFile contents (rules_of states.choice states.skips) known start scan old new

-- Each log whose bytes are known is undone, the last one first. The first one has this index of so many logs.
abbrev pub UndoesLogs : {W : Type 0} → (List ℕ → Option (List ℕ)) → (W → Option (List ℕ)) → Found → (count index : ℕ) → List ScannedLog → UndoOutput W → UndoOutput W → Type 0
UndoesLogs {W} bytes contents found count index [] old new = new ≡ old
UndoesLogs {W} bytes contents found count index (log ∷ logs) old new =
    (mid : UndoOutput W) × UndoesLogs bytes contents found count (index + 1) logs old mid
    × IfSome (bytes log.name.now) (λ known. length known < 2 ^ 64 → UndoesKnown contents found (place_at count index) known log.scan mid new)

-- So are all of so many logs: as one transaction, or as their own.
abbrev pub UndoesAll : {F W : Type 0} → (List ℕ → Option (List ℕ)) → (List ℕ → F → Type 0) → (F → ℕ → List ℕ → Type 0) → (W → Option (List ℕ)) → Found → (count : ℕ) → (is_one : Bool)
    → List ScannedLog → UndoOutput W → UndoOutput W → Type 0
UndoesAll bytes has_frames is_at contents found count true logs old new = IsOneTransaction has_frames is_at contents (UndoesLogs bytes contents found count 0 logs) logs old new
UndoesAll bytes has_frames is_at contents found count false logs old new = UndoesLogs bytes contents found count 0 logs old new
