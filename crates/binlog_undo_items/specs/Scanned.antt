-- What the first pass over logs in memory finds.
use Rattle.std.specs.Prelude.{◌≡◌, ◌≢◌, ◌⊎◌, ℕ, ◌+◌, ◌<◌, ◌≤◌, ◌==◌, Bool, true, false, List, [], ◌∷◌, length, map, take, Option, Some, None}
use Rattle.binlog_events.specs.FileHeader.{file_header}
use Rattle.binlog_filters.specs.Taking.{HasNoCondition}
use Rattle.binlog_filters.specs.declared.filter.Filter.{Filter}
use Rattle.binlog_undo_items.specs.Logs.{AreLogs, IsNoSplit}
use Rattle.binlog_undo_items.specs.Options.{are_known, checks_of, has_plain_temporal, skips_of}
use Rattle.binlog_undo_items.specs.Tables.{IsNoTables, StatesTables}
use Rattle.binlog_undo_items.specs.declared.failure.UndoFailure.{UndoFailure}
use Rattle.binlog_undo_items.specs.declared.failure.UndoFailure.TheVariants as failures
use Rattle.binlog_undo_items.specs.declared.request.UndoRequest.{UndoRequest}
use Rattle.binlog_undo_items.specs.declared.scanning.ScannedLog.{ScannedLog}
use Rattle.binlog_undo_log.specs.Files.{IsFresh, ScansWhole}
use Rattle.binlog_undo_log.specs.declared.choice.Choice.{Choice}
use Rattle.binlog_undo_log.specs.declared.scan.UndoScan.{UndoScan}

abbrev pub start_if : Bool → ℕ → ℕ
start_if true position = position
start_if false position = 0

abbrev pub stop_if : Bool → ℕ → Option ℕ
stop_if true position = Some position
stop_if false position = None

-- Transactions are chosen by the positions alone, of which the first one is one of the first log, and the second one of the last log; and
-- tables by their names.
pub record StatesChoice (request : UndoRequest) (is_first is_last : Bool) (choice : Choice) : Type 0 where
  pub filter : Filter
  pub all : HasNoCondition filter
  pub transactions : choice.transactions ≡ record filter {
    start_position = start_if is_first request.options.start_position;
    stop_position = stop_if is_last request.options.stop_position;
  }
  pub tables : StatesTables request.tables.now choice.tables
  pub excluded : StatesTables request.excluded.now choice.excluded
  pub plain : choice.has_plain_temporal ≡ has_plain_temporal request.options

-- A pass in front of the first item of a log, for what is asked for.
pub record StatesScan (request : UndoRequest) (is_first is_last : Bool) (scan : UndoScan) : Type 0 where
  pub choice : Choice
  pub chosen : StatesChoice request is_first is_last choice
  pub fresh : IsFresh choice (checks_of request.options) (skips_of request.options) scan

-- A log is scanned so.
pub record IsScannedAs (request : UndoRequest) (is_first is_last : Bool) (log : ScannedLog) : Type 0 where
  pub start : UndoScan
  pub states : StatesScan request is_first is_last start
  pub scans : ScansWhole log.bytes.now start log.scan

-- So are these logs, of which the first one has this index of so many.
abbrev pub AreScannedFrom : UndoRequest → (count index : ℕ) → List ScannedLog → Type 0
AreScannedFrom request count index [] = Unit {0}
AreScannedFrom request count index (log ∷ logs) = IsScannedAs request (index == 0) (index + 1 == count) log × AreScannedFrom request count (index + 1) logs

abbrev pub AreScanned : UndoRequest → ℕ → List ScannedLog → Type 0
AreScanned request count logs = AreScannedFrom request count 0 logs

-- All logs of a request are scanned.
pub record ScansRequest (request : UndoRequest) (logs : List ScannedLog) : Type 0 where
  pub known : are_known request.options ≡ true
  pub are : AreLogs request.logs.now request.sizes.now (map (λ (log : ScannedLog). log.bytes.now) logs)
  pub each : AreScanned request (length logs) logs

-- ---- why logs aren't scanned

-- The names of one of the two texts aren't those of tables; or memory was refused.
abbrev pub HasNoTable : UndoRequest → UndoFailure → Type 0
HasNoTable request failure = IsNoTables request.tables.now failure ⊎ IsNoTables request.excluded.now failure

-- The bytes don't begin as a log; or memory was refused.
abbrev pub IsNoLog : List ℕ → UndoFailure → Type 0
IsNoLog log failures.EndOfInput = length log < 4
IsNoLog log failures.InvalidFileHeader = (4 ≤ length log) × (take 4 log ≢ file_header)
IsNoLog log failures.Memory = Unit {0}
IsNoLog log failure = ⊥

-- One of the logs doesn't begin as one.
abbrev pub HasNoLog : List (List ℕ) → UndoFailure → Type 0
HasNoLog [] failure = ⊥
HasNoLog (log ∷ logs) failure = IsNoLog log failure ⊎ HasNoLog logs failure

-- These logs aren't scanned.
abbrev pub IsNoScan : UndoRequest → List (List ℕ) → UndoFailure → Type 0
IsNoScan request logs failure = HasNoTable request failure ⊎ (HasNoLog logs failure ⊎ (failure ≡ failures.Memory))

-- An option isn't known; the sizes aren't those of the logs; or the logs aren't scanned.
abbrev pub IsNoRequest : UndoRequest → UndoFailure → Type 0
IsNoRequest request failure =
    ((failure ≡ failures.Options) × (are_known request.options ≡ false))
    ⊎ (IsNoSplit request.logs.now request.sizes.now failure
    ⊎ ((logs : List (List ℕ)) × AreLogs request.logs.now request.sizes.now logs × IsNoScan request logs failure))
