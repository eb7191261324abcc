-- What is seen of whole logs, and found in them.
use Rattle.std.specs.Prelude.{◌≡◌, ℕ, ◌<◌, ◌^◌, List, [], ◌++◌, length, Option, Result, Ok, Some, IfSome}
use Rattle.binlog_wire.specs.declared.error.Error.{Error}
use Rattle.binlog_events.specs.Events.{EventView}
use Rattle.binlog_file.specs.FileHeader.{file_header}
use Rattle.binlog_file.specs.TableMapsInForce.{TableMaps, no_table_maps}
use Rattle.binlog_payload_visits.specs.Parts.{Part}
use Rattle.binlog_payload_visits.specs.PartVisits.{PartVisitRelation, PartRefusalRelation, VisitsSpliced, RefusesSpliced}
use Rattle.binlog_payload_visits.specs.Splicing.{Shown, AreSpliced}
use Rattle.binlog_payload_visits.specs.declared.spliced.Spliced.{Spliced}
use Rattle.binlog_visits.specs.Places.{first_place, LeavesVerified}
use Rattle.binlog_visits.specs.Visits.{VisitRelation, RefusalRelation, HasTailAt, VisitsVerifiedLog}
use Rattle.binlog_wire.specs.declared.error.Error.TheVariants.{Memory}
use Rattle.crc32_ieee.specs.Checksums.{IsCrc32}
use Rattle.binlog_later_changes.specs.Later.{Look}
use Rattle.binlog_later_changes.specs.Looks.{At, in_front, AreSeen, tail_looks}
use Rattle.binlog_later_changes.specs.RowsLeft.{Left, left_of}
use Rattle.binlog_later_changes.specs.Tables.{Grows}
use Rattle.binlog_later_changes.specs.Visits.{VisitsItem, VisitsOne, EndsLog}
use Rattle.binlog_later_changes.specs.declared.later_changes.LaterChanges.{LaterChanges}
use Rattle.binlog_later_changes.specs.declared.later_rules.LaterRules.{LaterRules}
use Rattle.binlog_later_changes.specs.declared.later_scan.LaterScan.{LaterScan}
use Rattle.binlog_later_changes.specs.declared.undone_events.RowsPlace.{RowsPlace}

-- The greatest size of a content in bytes, 1 GiB.
abbrev pub most_bytes : ℕ
most_bytes = 1073741824

abbrev pub visits_part : PartVisitRelation LaterScan
visits_part old maps index number part new = VisitsOne old maps part new

abbrev pub refuses_item : RefusalRelation LaterScan
refuses_item old maps index item error new = error ≡ Memory

abbrev pub refuses_part : PartRefusalRelation LaterScan
refuses_part old maps index number part error new = error ≡ Memory

-- What a visit makes of a visitor that is shown the events inside, too, and when it is refused.
abbrev pub sees : VisitRelation (Spliced LaterScan)
sees old maps index item new = VisitsSpliced VisitsItem visits_part old.limit old.visitor maps index item new.visitor × (new.limit ≡ old.limit)

abbrev pub refuses : RefusalRelation (Spliced LaterScan)
refuses old maps index item error new = RefusesSpliced VisitsItem visits_part refuses_item refuses_part old.limit old.visitor maps index item error new.visitor × (new.limit ≡ old.limit)

-- Each item of a log is visited, of these bytes, if they are known, and then its end.
pub record VisitsWhole (remaining : Option (List ℕ)) (old new : Spliced LaterScan) : Type 0 where
  pub tail_len : Option ℕ
  pub between : Spliced LaterScan
  pub visits : IfSome remaining (λ bytes. length bytes < 2 ^ 64 → VisitsVerifiedLog IsCrc32 sees refuses bytes old (Ok tail_len) between)
  pub ends : EndsLog tail_len between.visitor new.visitor

-- This is seen of the log with this number, of these bytes: of its verified items, each with the events inside behind it, and of its end. All of the
-- row events that are undone are met, one after the other. If rows are checked, these were left behind in front of the log, and others are behind it.
pub record SeesLog (rules : LaterRules) (log : ℕ) (undone : List RowsPlace) (bytes : List ℕ) (before behind : Left) (looks : List Look) : Type 0 where
  pub stream : List ℕ
  pub file : bytes ≡ file_header ++ stream
  pub items : List (Result EventView Error)
  pub are : LeavesVerified IsCrc32 (first_place stream) items
  pub shown : List Shown
  pub spliced : AreSpliced most_bytes 0 items shown
  pub seen : List Look
  pub end : At
  pub each : AreSeen rules log (in_front before undone) (first_place stream).state.table_maps no_table_maps shown seen end
  pub met : end.left ≡ []
  pub rows : behind ≡ end.rows
  pub tail_len : Option ℕ
  pub tail : HasTailAt (first_place stream) tail_len
  pub is : looks ≡ seen ++ tail_looks rules log end.is_stopped tail_len end

-- What is found grows by what is seen of the log.
pub record FindsLater (rules : LaterRules) (log : ℕ) (undone : List RowsPlace) (bytes : List ℕ) (old new : LaterChanges) : Type 0 where
  pub looks : List Look
  pub sees : SeesLog rules log undone bytes (left_of old.rows) (left_of new.rows) looks
  pub grows : Grows looks old.tables new.tables
