-- Collecting the GTIDs of the items of a log.
use Rattle.std.specs.Prelude.{◌≡◌, ℕ, Bool, List, [], ◌∷◌, Option, Result, Ok, Err}
use Rattle.std.specs.Io.KnownBytes.{Appends}
use Rattle.binlog_wire.specs.declared.error.Error.{Error}
use Rattle.binlog_events.specs.Events.{EventView}
use Rattle.binlog_gtid_sets.specs.GtidGroups.{Pair, is_tracked}
use Rattle.binlog_maria_gtids.specs.LastGtids.{KeepLast}
use Rattle.binlog_gtid_listing.specs.GtidItems.{are_added}
use Rattle.binlog_gtid_listing.specs.MariaItems.{maria_gtids}
use Rattle.binlog_gtid_listing.specs.LogItems.{is_log_refused, log_lines, LogTracking, log_tracked, TracksLogItem}
use Rattle.binlog_commands.specs.Counting.{counted_if}
use Rattle.binlog_commands.specs.declared.gtids.GtidCollector.{GtidCollector}

-- What is collected: the GTIDs, the bytes that are written, and the number of events whose GTIDs are refused.
pub record Collection : Type 0 where
  pub tracking : LogTracking
  pub refused : ℕ

-- What a collector has, and its output, of which `contents` are the bytes.
abbrev pub collected : {W : Type 0} → (W → Option (List ℕ)) → GtidCollector W → Collection
collected contents collector = record {
  tracking = log_tracked collector.gtids (contents collector.output);
  refused = collector.refused;
}

-- The number of events whose GTIDs are refused, behind one more item.
abbrev pub refused_behind : Result EventView Error → ℕ → ℕ
refused_behind (Ok event) refused = counted_if (is_log_refused (Ok event)) refused
refused_behind (Err error) refused = refused

-- The sets grow by what the item adds, the line of an error is written, and an event whose GTIDs are refused is counted.
abbrev pub Collects : (index : ℕ) (item : Result EventView Error) (old new : Collection) → Type 0
Collects index item old new = (answer : Bool) × TracksLogItem index item old.tracking new.tracking (Ok answer) × (new.refused ≡ refused_behind item old.refused)

-- Memory ran out, or the writer failed. Nothing is counted.
abbrev pub RefusesCollected : (index : ℕ) (item : Result EventView Error) (old : Collection) (error : Error) (new : Collection) → Type 0
RefusesCollected index item old error new = TracksLogItem index item old.tracking new.tracking (Err error) × (new.refused ≡ old.refused)

-- ---- all items

-- The number of refused events; it stays at the largest number of 64 bits.
abbrev pub refused_in : List (Result EventView Error) → ℕ → ℕ
refused_in [] refused = refused
refused_in (item ∷ items) refused = refused_in items (refused_behind item refused)

-- The GTIDs are those that these items add, and no others; the lines of their errors are written, and the refused events counted.
pub record CollectsAll (items : List (Result EventView Error)) (old new : Collection) : Type 0 where
  pub same : (pair : Pair) (n : ℕ) → is_tracked new.tracking.gtids.mysql pair n ≡ are_added items pair n
  pub last : KeepLast (maria_gtids items) new.tracking.gtids.maria
  pub written : Appends old.tracking.written new.tracking.written (log_lines items)
  pub refusals : new.refused ≡ refused_in items 0
