-- What a visit of an item, or of an event inside, makes of a visitor.
use Rattle.std.specs.Prelude.{◌≡◌, ℕ, Bool, false, List, [], ◌∷◌, Option, Result}
use Rattle.binlog_wire.specs.declared.error.Error.{Error}
use Rattle.binlog_events.specs.Events.{EventView}
use Rattle.binlog_file.specs.TableMapsInForce.{TableMaps}
use Rattle.binlog_file.specs.declared.log_data.LogEventData.{LogEventData}
use Rattle.binlog_payload_visits.specs.Parts.{Part}
use Rattle.binlog_payload_visits.specs.PartVisits.{PartVisitRelation}
use Rattle.binlog_visits.specs.Visits.{VisitRelation}
use Rattle.binlog_rows.specs.declared.table_map_event.TableMapEvent.{TableMapEvent}
use Rattle.binlog_transactions.specs.declared.role.Role.{Role}
use Rattle.change_statistics.specs.Facts.{Name}
use Rattle.binlog_later_changes.specs.KnownRows.{RowImages, KnowsIfMapped}
use Rattle.binlog_later_changes.specs.Later.{Cause, undone, Look}
use Rattle.binlog_later_changes.specs.Looks.{At, at_of, look_of, SeesKept, SeesChecked, SeesCause, SeesItemIf, SeesPartIf, tail_looks}
use Rattle.binlog_later_changes.specs.Places.{is_next}
use Rattle.binlog_later_changes.specs.RowsLeft.{Leaves, is_known_table}
use Rattle.binlog_later_changes.specs.Said.{IsRole, is_memory, cause_in}
use Rattle.binlog_later_changes.specs.Tables.{Grows}
use Rattle.binlog_later_changes.specs.declared.later_scan.LaterScan.{LaterScan}
use Rattle.binlog_later_changes.specs.declared.undone_events.RowsPlace.{RowsPlace}

-- These events are seen, and the visitor is there in the log then.
pub record Sees (looks : List Look) (end : At) (old new : LaterScan) : Type 0 where
  pub at : at_of new ≡ end
  pub rules : new.rules ≡ old.rules
  pub log : new.log ≡ old.log
  pub grows : Grows looks old.tables new.tables

-- The visitor goes on to there in the log.
pub record Enters (end : At) (old new : LaterScan) : Type 0 where
  pub at : at_of new ≡ end
  pub rules : new.rules ≡ old.rules
  pub log : new.log ≡ old.log
  pub tables : new.tables ≡ old.tables

-- Rows of a table that are undone are seen, where rows are checked. `Is` says what is known of them.
pub record SeesUndoneRows (Is : Option (List RowImages) → Type 0) (name : Name) (old new : LaterScan) : Type 0 where
  pub known : Option (List RowImages)
  pub is : Is known
  pub leaves : Leaves name known (at_of old).rows (at_of new).rows
  pub sees : Sees (look_of old.log (at_of old) (undone name) ∷ []) (record (at_of old) { rows = (at_of new).rows }) old new

-- Rows that aren't.
pub record SeesKeptRows (Is : Option (List RowImages) → Type 0) (name : Name) (old new : LaterScan) : Type 0 where
  pub looks : List Look
  pub seen : SeesKept old.rules old.log (is_known_table ((at_of old).rows.tables name)) Is (at_of old) name looks
  pub sees : Sees looks (at_of old) old new

-- Rows at this place that are or aren't.
pub record SeesCheckedRows (Is : Option (List RowImages) → Type 0) (place : RowsPlace) (name : Name) (old new : LaterScan) : Type 0 where
  pub looks : List Look
  pub end : At
  pub seen : SeesChecked old.rules old.log (is_next place (at_of old).left) Is (at_of old) place name looks end
  pub sees : Sees looks end old new

-- An event at this place is seen that says this.
pub record SeesSaid (Is : Option (List RowImages) → Type 0) (place : RowsPlace) (cause : Option Cause) (old new : LaterScan) : Type 0 where
  pub looks : List Look
  pub end : At
  pub seen : SeesCause old.rules old.log Is (at_of old) place cause looks end
  pub sees : Sees looks end old new

-- An event at this place is seen of which this was read, where this is the table map in force for its rows.
pub record SeesRead (place : RowsPlace) (event : EventView) (read : Result (Option LogEventData) Error) (map : Option TableMapEvent) (old new : LaterScan) : Type 0 where
  pub known : is_memory read ≡ false
  pub role : Role
  pub is_role : IsRole event role
  pub said : SeesSaid (KnowsIfMapped event map read) place (cause_in role read map) old new

-- An item is visited.
pub record VisitsItem (old : LaterScan) (maps : TableMaps) (index : ℕ) (item : Result EventView Error) (new : LaterScan) : Type 0 where
  pub looks : List Look
  pub end : At
  pub seen : SeesItemIf old.rules old.log old.is_stopped (at_of old) maps index item looks end
  pub sees : Sees looks end old new

-- An event inside is.
pub record VisitsOne (old : LaterScan) (maps : TableMaps) (part : Part) (new : LaterScan) : Type 0 where
  pub looks : List Look
  pub end : At
  pub seen : SeesPartIf old.rules old.log old.is_stopped (at_of old) maps part looks end
  pub sees : Sees looks end old new

-- The end of the log is reached, behind which this is the length of the tail.
pub record EndsLog (tail_len : Option ℕ) (old new : LaterScan) : Type 0 where
  pub end : At
  pub sees : Sees (tail_looks old.rules old.log old.is_stopped tail_len (at_of old)) end old new
  pub left : end.left ≡ (at_of old).left
  pub rows : end.rows ≡ (at_of old).rows
