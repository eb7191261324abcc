-- What is written for several logs is one log, which is the inverse of the changes of all of them.
use Rattle.std.specs.Prelude.{◌≡◌, ◌⊎◌, ℕ, ◌+◌, List, [], ◌∷◌, ◌++◌, Option, Some}
use Rattle.clap.specs.declared.parser.matches.Found.{Found}
use Rattle.binlog_event_format.specs.declared.format_description.FormatDescriptionEvent.{FormatDescriptionEvent}
use Rattle.binlog_events.specs.Events.{EventView}
use Rattle.binlog_file.specs.Descriptions.{accepted}
use Rattle.binlog_undo_command.specs.LogPlaces.{place_at}
use Rattle.binlog_undo_command.specs.Options.{StatesScan}
use Rattle.binlog_undo_command.specs.declared.log_place.LogPlace.{LogPlace}
use Rattle.binlog_undo_command.specs.declared.scanning.ScannedLog.{ScannedLog}
use Rattle.binlog_undo_log.specs.Choices.{rules_of}
use Rattle.binlog_undo_log.specs.FileChanges.{AreAtPlaces, undone_of}
use Rattle.binlog_undo_log.specs.Files.{IsScanned}
use Rattle.binlog_undo_log.specs.LogChanges.{LogChange, AreKeptChanges, ArePieces, IsReadBeside, AreReadPair}
use Rattle.binlog_undo_log.specs.Places.{IsFrameIn}
use Rattle.binlog_undo_log.specs.WholeLogs.{IsLogOf}
use Rattle.binlog_undo_log.specs.declared.scan.UndoScan.{UndoScan}
use Rattle.table_changes.specs.Changes.{inverse}

-- ---- the log that is written

-- The event is a description, a statement or the end of a transaction.
abbrev pub IsWithoutRows : EventView → Type 0
IsWithoutRows event = IsReadBeside event ⊎ ((d : FormatDescriptionEvent) × (accepted event.frame ≡ Some d))

-- The events of a log with one or more descriptions, as they are read, are these changes.
abbrev pub AreWrittenChanges : List EventView → List LogChange → Type 0
AreWrittenChanges events changes = ArePieces IsWithoutRows AreReadPair events changes

-- ---- the logs that are undone

-- These are the changes of the transactions that are undone of a log at this place that has these bytes. Its items, or those up to the stop position, are
-- events, which are at their places.
pub record AreChangesOf (found : Found) (place : LogPlace) (bytes : List ℕ) (scan : UndoScan) (changes : List LogChange) : Type 0 where
  pub start : UndoScan
  pub states : StatesScan place found start
  pub scanned : IsScanned (rules_of states.choice states.skips) bytes start scan
  pub places : AreAtPlaces bytes scanned.front scanned.seen
  pub d : FormatDescriptionEvent
  pub are : AreKeptChanges (IsFrameIn bytes) d (undone_of (rules_of states.choice states.skips) scanned.seen scanned.behind) changes

-- The same of logs, one after the other. The first one has this index of so many logs, and `bytes` are those of the log of a name.
abbrev pub AreChangesOfLogs : (bytes : List ℕ → List ℕ) → Found → (count index : ℕ) → List ScannedLog → List LogChange → Type 0
AreChangesOfLogs bytes found count index [] changes = changes ≡ []
AreChangesOfLogs bytes found count index (log ∷ logs) changes =
    (own : List LogChange) × (more : List LogChange) × AreChangesOf found (place_at count index) (bytes log.name.now) log.scan own
    × AreChangesOfLogs bytes found count (index + 1) logs more × (changes ≡ own ++ more)

-- What is written is a file header and events, with nothing between them or behind them. As they are read, they are the inverse of the changes of these logs,
-- which are all of so many.
pub record IsInverseOfLogs (bytes : List ℕ → List ℕ) (found : Found) (count : ℕ) (logs : List ScannedLog) (written : Option (List ℕ)) : Type 0 where
  pub changes : List LogChange
  pub are : AreChangesOfLogs bytes found count 0 logs changes
  pub out : List ℕ
  pub has : written ≡ Some out
  pub events : List EventView
  pub log : IsLogOf events out
  pub inverse_are : AreWrittenChanges events (inverse changes)
