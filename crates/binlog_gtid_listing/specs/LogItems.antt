-- What an item of a log adds to its GTIDs, MySQL's or MariaDB's, or the line of its error.
use Rattle.std.specs.Prelude.{◌≡◌, ◌⊎◌, ℕ, Bool, true, List, [], ◌++◌, Option, Result, Ok, Err, is_err, if◌then◌else◌}
use Rattle.std.specs.Io.KnownBytes.{Appends}
use Rattle.binlog_wire.specs.declared.error.Error.{Error}
use Rattle.binlog_events.specs.Events.{EventView}
use Rattle.binlog_gtid_sets.specs.declared.gtid_group.GtidGroup.{GtidGroup}
use Rattle.binlog_visits.specs.LineVisits.{WritesNoItem}
use Rattle.binlog_visits.specs.Lines.{listing}
use Rattle.binlog_listing.specs.Listing.{error_line}
use Rattle.binlog_gtid_listing.specs.GtidItems.{has_gtids, gtids_in, gtid_line, is_refused, GrowsBy}
use Rattle.binlog_mariadb.specs.declared.maria_gtid.MariaGtid.{MariaGtid}
use Rattle.binlog_mariadb.specs.declared.event_data.MariaEventData.{MariaEventData}
use Rattle.binlog_maria_gtids.specs.LastGtids.{KeepLast}
use Rattle.binlog_gtid_listing.specs.MariaItems.{has_maria_gtids, maria_data_of, item_gtids}
use Rattle.binlog_gtid_listing.specs.declared.log_gtids.LogGtids.{LogGtids}

-- ---- the lines of errors

abbrev pub maria_error_line : ℕ → Result (Option MariaEventData) Error → List ℕ
maria_error_line index (Ok found) = []
maria_error_line index (Err error) = error_line index error

-- The line of an item, which states an error: that of the item, or of the data of an event with MySQL's or MariaDB's GTIDs.
-- Empty if it has none.
abbrev pub log_line : ℕ → Result EventView Error → List ℕ
log_line index (Ok event) = if has_maria_gtids event then maria_error_line index (maria_data_of event) else gtid_line index (Ok event)
log_line index (Err error) = error_line index error

-- The item has a line.
abbrev pub is_log_refused : Result EventView Error → Bool
is_log_refused (Ok event) = if has_maria_gtids event then is_err (maria_data_of event) else is_refused (Ok event)
is_log_refused (Err error) = true

-- The lines of the items with errors, in order.
abbrev pub log_lines : List (Result EventView Error) → List ℕ
log_lines items = listing log_line 0 items

-- Adding what the item adds may allocate.
abbrev pub MayTake : Result EventView Error → Type 0
MayTake (Ok event) = (has_gtids event ≡ true) ⊎ (has_maria_gtids event ≡ true)
MayTake (Err error) = ⊥

-- ---- one item

-- The GTIDs of a log.
abbrev pub log_gtids : (groups : List GtidGroup) (last : List MariaGtid) → LogGtids
log_gtids groups last = record { mysql = groups; maria = last }

-- What there is so far: the GTIDs, and the bytes that are written.
pub record LogTracking : Type 0 where
  pub gtids : LogGtids
  pub written : Option (List ℕ)

-- The record of these parts.
abbrev pub log_tracked : (gtids : LogGtids) (written : Option (List ℕ)) → LogTracking
log_tracked gtids written = record { gtids = gtids; written = written }

-- What is written, added and answered for an item.
abbrev pub TracksLogItem : (index : ℕ) (item : Result EventView Error) (old new : LogTracking) (answer : Result Bool Error) → Type 0
TracksLogItem index item old new (Ok is_error) =
    GrowsBy (gtids_in item) old.gtids.mysql new.gtids.mysql × KeepLast (old.gtids.maria ++ item_gtids item) new.gtids.maria × Appends old.written new.written (log_line index item)
    × (is_error ≡ is_log_refused item)
TracksLogItem index item old new (Err error) = (new.gtids ≡ old.gtids) × WritesNoItem log_line MayTake index item old.written error new.written
