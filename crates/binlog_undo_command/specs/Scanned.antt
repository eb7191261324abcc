-- What the first pass over several logs finds.
use Rattle.std.specs.Prelude.{◌≡◌, ◌⊎◌, ℕ, ◌+◌, ◌<◌, ◌^◌, List, [], ◌∷◌, length, Option, IfSome}
use Rattle.clap.specs.declared.parser.matches.Found.{Found}
use Rattle.binlog_undo_command.specs.LogPlaces.{place_at}
use Rattle.binlog_undo_command.specs.Options.{StatesScan}
use Rattle.binlog_undo_command.specs.declared.log_place.LogPlace.{LogPlace}
use Rattle.binlog_undo_command.specs.declared.scanning.ScannedLog.{ScannedLog}
use Rattle.binlog_undo_index.specs.Parts.{parts_of}
use Rattle.binlog_undo_log.specs.Files.{AreSkipped, ScansWhole}
use Rattle.binlog_undo_log.specs.declared.scan.UndoScan.{UndoScan}

-- A log of these bytes, where they are known, is scanned, and nothing in it is refused, unless that is skipped.
pub record ScansSkipped (known : Option (List ℕ)) (old new : UndoScan) : Type 0 where
  pub scans : IfSome known (λ bytes. length bytes < 2 ^ 64 → ScansWhole bytes old new)
  pub skipped : AreSkipped (parts_of new.index).refusals

-- Something in it is refused that isn't skipped.
pub record ScansRefused (known : Option (List ℕ)) (old new : UndoScan) : Type 0 where
  pub scans : IfSome known (λ bytes. length bytes < 2 ^ 64 → ScansWhole bytes old new)
  pub refused : AreSkipped (parts_of new.index).refusals → ⊥

-- A log at this place of these bytes, where they are known, is scanned as the options ask for it.
pub record IsScannedAs (found : Found) (place : LogPlace) (known : Option (List ℕ)) (scan : UndoScan) : Type 0 where
  pub start : UndoScan
  pub states : StatesScan place found start
  pub scans : IfSome known (λ bytes. length bytes < 2 ^ 64 → ScansWhole bytes start scan)

-- Nothing in it is refused, unless that is skipped.
pub record IsUndone (found : Found) (place : LogPlace) (known : Option (List ℕ)) (scan : UndoScan) : Type 0 where
  pub scanned : IsScannedAs found place known scan
  pub skipped : AreSkipped (parts_of scan.index).refusals

-- Something in it is refused that isn't skipped.
pub record IsRefused (found : Found) (place : LogPlace) (known : Option (List ℕ)) : Type 0 where
  pub scan : UndoScan
  pub scanned : IsScannedAs found place known scan
  pub refused : AreSkipped (parts_of scan.index).refusals → ⊥

-- `bytes` are those of the log of a name, where they are known.
module _ (bytes : List ℕ → Option (List ℕ)) (found : Found) where
  -- Nothing is refused in the logs of these names, which are scanned in order. The first one has this index of so many logs.
  abbrev pub AreUndoneFrom : (count index : ℕ) → List (List ℕ) → List ScannedLog → Type 0
  AreUndoneFrom count index [] [] = Unit {0}
  AreUndoneFrom count index (name ∷ names) (log ∷ logs) =
      (log.name.now ≡ name) × IsUndone found (place_at count index) (bytes name) log.scan × AreUndoneFrom count (index + 1) names logs
  AreUndoneFrom count index names logs = ⊥

  -- Something is refused in one of the logs of these names.
  abbrev pub HasRefusedFrom : (count index : ℕ) → List (List ℕ) → Type 0
  HasRefusedFrom count index [] = ⊥
  HasRefusedFrom count index (name ∷ names) = IsRefused found (place_at count index) (bytes name) ⊎ HasRefusedFrom count (index + 1) names

  -- Of all logs.
  abbrev pub AreUndone : List (List ℕ) → List ScannedLog → Type 0
  AreUndone names logs = AreUndoneFrom (length names) 0 names logs

  abbrev pub HasRefused : List (List ℕ) → Type 0
  HasRefused names = HasRefusedFrom (length names) 0 names
