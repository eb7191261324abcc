-- What is seen of an event.
use Rattle.std.proofs.Common.{◌≡◌, ℕ, Bool, true, false, List, [], ◌∷◌, length, Option, Some, None, Result, Ok, Err, OnOk, map, refl, sym, ap, subst, ◌∙◌}
use Rattle.std.specs.Prelude.{option_map}
use Rattle.binlog_wire.specs.declared.error.Error.{Error}
use Rattle.binlog_events.specs.Events.{EventView}
use Rattle.binlog_file.specs.LogData.{ReadsLogData}
use Rattle.binlog_file.specs.TableMapsInForce.{TableMaps}
use Rattle.binlog_file.specs.declared.log_data.LogEventData.{LogEventData}
use Rattle.binlog_payloads.specs.declared.error.PayloadError.{PayloadError}
use Rattle.binlog_payload_visits.specs.Parts.{Part}
use Rattle.binlog_rows.specs.declared.table_map_event.TableMapEvent.{TableMapEvent}
use Rattle.binlog_transactions.specs.declared.role.Role.{Role}
use Rattle.binlog_undo_index.specs.Skips.{is_skipped}
use Rattle.binlog_undo_index.specs.declared.reason.Reason.{Reason}
use Rattle.binlog_undo_index.specs.declared.reason.Reason.TheVariants.{Damaged}
use Rattle.change_statistics.specs.Facts.{Name}
use Rattle.binlog_later_changes.specs.KeyedRows.{keys_in, GivesKnown}
use Rattle.binlog_later_changes.specs.KnownRows.{RowImages, Knows, KnowsIfMapped}
use Rattle.binlog_later_changes.specs.Later.{Cause, table, unknown, What, nothing, undone, other, Look}
use Rattle.binlog_later_changes.specs.Looks.{At, at_of, event_at, look_of, look_at, behind, unknown_at, unless_skipped, rows_what, kept_what, at_event, at_error, at_part, stopped, is_limit, SeesKept, SeesChecked, SeesCauseIf, SeesCause, SeesItemIf, SeesPartIf, SeesLack}
use Rattle.binlog_later_changes.specs.Places.{is_next, left_behind}
use Rattle.binlog_later_changes.specs.RowsLeft.{Left, left_of, count_of, state_of, Leaves, LeavesKeys, is_apart, is_apart_by, is_known_table}
use Rattle.binlog_later_changes.specs.Said.{rows_in, map_for, cause_in}
use Rattle.binlog_later_changes.specs.Tables.{Grows}
use Rattle.binlog_later_changes.specs.Visits.{Enters, Sees, SeesUndoneRows, SeesKeptRows, SeesCheckedRows, SeesSaid, SeesRead, VisitsItem, VisitsOne}
use Rattle.binlog_later_changes.specs.declared.later_change.EventPlace.{EventPlace}
use Rattle.binlog_later_changes.specs.declared.known_rows.KeyedRow.{KeyedRow}
use Rattle.binlog_later_changes.specs.declared.later_rules.LaterRules.{LaterRules}
use Rattle.binlog_later_changes.specs.declared.later_scan.LaterScan.{LaterScan}
use Rattle.binlog_later_changes.specs.declared.later_tables.LaterTables.{LaterTables}
use Rattle.binlog_later_changes.specs.declared.undone_events.RowsPlace.{RowsPlace}
use Rattle.binlog_later_changes.specs.declared.undone_events.RowsPlace.TheVariants.{InLog, InContent}
use Rattle.binlog_later_changes.proofs.HeldTables.{held_nothing}
use Rattle.binlog_later_changes.proofs.RowsLeft.{keys_leave, apart_is as same_apart}
use Rattle.binlog_later_changes.proofs.SeenLogs.{grows_none}

-- An event that changes no table.
pub sees_nothing : (scan : LaterScan) (place : RowsPlace) → Sees (look_at scan.rules scan.log (at_of scan) place None ∷ []) (behind (at_of scan) place None) scan scan
sees_nothing scan place = record { at = refl; rules = refl; log = refl; grows = λ looks h. held_nothing (event_at scan.log (at_of scan)) looks scan.tables h }

-- Nothing is looked at.
pub sees_none : (scan : LaterScan) → Sees [] (at_of scan) scan scan
sees_none scan = record { at = refl; rules = refl; log = refl; grows = grows_none scan.tables }

-- An event that may change any table, for a reason that is skipped.
pub sees_skipped : (scan : LaterScan) (reason : Reason) → is_skipped scan.rules.skips reason ≡ true → Sees (unknown_at scan.rules scan.log (at_of scan) reason ∷ []) (at_of scan) scan scan
sees_skipped scan reason is = record {
  at = refl;
  rules = refl;
  log = refl;
  grows = subst (λ (b : Bool). Grows (look_of scan.log (at_of scan) (unless_skipped b reason) ∷ []) scan.tables scan.tables) (sym is)
      (λ looks h. held_nothing (event_at scan.log (at_of scan)) looks scan.tables h);
}

-- One for a reason that isn't.
pub sees_unknown : (scan : LaterScan) (reason : Reason) (event : EventPlace) (tables : LaterTables) → is_skipped scan.rules.skips reason ≡ false → event ≡ event_at scan.log (at_of scan)
    → Grows (record { event = event; what = other (unknown reason) } ∷ []) scan.tables tables
    → Sees (unknown_at scan.rules scan.log (at_of scan) reason ∷ []) (at_of scan) scan (record scan { tables = tables })
sees_unknown scan reason event tables is here grows = record {
  at = refl;
  rules = refl;
  log = refl;
  grows = subst (λ (b : Bool). Grows (look_of scan.log (at_of scan) (unless_skipped b reason) ∷ []) scan.tables tables) (sym is)
      (subst (λ (e : EventPlace). Grows (record { event = e; what = other (unknown reason) } ∷ []) scan.tables tables) here grows);
}

-- Rows of a table.
pub sees_rows : (old new : LaterScan) (place : RowsPlace) (name : Name) (met : Bool) → met ≡ is_next place (at_of old).left
    → at_of new ≡ record (at_of old) { left = left_behind place (at_of old).left } → new.rules ≡ old.rules → new.log ≡ old.log
    → Grows (look_of old.log (at_of old) (rows_what met name) ∷ []) old.tables new.tables
    → Sees (look_at old.rules old.log (at_of old) place (Some (table name)) ∷ []) (behind (at_of old) place (Some (table name))) old new
sees_rows old new place name met is at rules log grows = record {
  at = at;
  rules = rules;
  log = log;
  grows = subst (λ (b : Bool). Grows (look_of old.log (at_of old) (rows_what b name) ∷ []) old.tables new.tables) is grows;
}

-- Rows that aren't undone.
pub sees_kept : (old new : LaterScan) (name : Name) (event : EventPlace) → event ≡ event_at old.log (at_of old) → at_of new ≡ at_of old → new.rules ≡ old.rules → new.log ≡ old.log
    → Grows (record { event = event; what = other (table name) } ∷ []) old.tables new.tables → Sees (look_of old.log (at_of old) (other (table name)) ∷ []) (at_of old) old new
sees_kept old new name event here at rules log grows = record {
  at = at;
  rules = rules;
  log = log;
  grows = subst (λ (e : EventPlace). Grows (record { event = e; what = other (table name) } ∷ []) old.tables new.tables) here grows;
}

-- ---- rows that are checked

-- Rows that are undone.
pub undone_checked : (Is : Option (List RowImages) → Type 0) (name : Name) (given : Option (List KeyedRow)) (known : GivesKnown Is name given) (old new : LaterScan)
    → LeavesKeys name (option_map (map keys_in) given) old.rows new.rows → at_of new ≡ record (at_of old) { rows = left_of new.rows } → new.rules ≡ old.rules → new.log ≡ old.log
    → ((event : EventPlace) → Grows (record { event = event; what = undone name } ∷ []) old.tables new.tables) → SeesUndoneRows Is name old new
undone_checked Is name given known old new leaves at rules log grows = record {
  known = known.known;
  is = known.is;
  leaves = keys_leave name known.known given old.rows new.rows known.keys leaves;
  sees = record { at = at; rules = rules; log = log; grows = grows (event_at old.log (at_of old)) };
}

-- Rows that aren't, of a table that isn't known.
pub kept_unknown : (Is : Option (List RowImages) → Type 0) (name : Name) (knows : Bool) (old new : LaterScan) → knows ≡ is_known_table ((at_of old).rows.tables name) → knows ≡ false
    → Sees (look_of old.log (at_of old) (other (table name)) ∷ []) (at_of old) old new → SeesKeptRows Is name old new
kept_unknown Is name knows old new is isnt sees = record {
  looks = look_of old.log (at_of old) (other (table name)) ∷ [];
  seen = subst (λ (b : Bool). SeesKept old.rules old.log b Is (at_of old) name (look_of old.log (at_of old) (other (table name)) ∷ [])) (sym isnt ∙ is) refl;
  sees = sees;
}

-- What is said of rows that are apart or not.
kept_known : (Is : Option (List RowImages) → Type 0) (name : Name) (knows : Bool) (old new : LaterScan) (known : Option (List RowImages)) (apart : Bool) → knows ≡ is_known_table ((at_of old).rows.tables name)
    → knows ≡ true → Is known → apart ≡ is_apart (at_of old).rows.counts name known → Sees (look_of old.log (at_of old) (kept_what apart name) ∷ []) (at_of old) old new → SeesKeptRows Is name old new
kept_known Is name knows old new known apart is knows_it known_is apart_is sees = record {
  looks = look_of old.log (at_of old) (kept_what apart name) ∷ [];
  seen = subst (λ (b : Bool). SeesKept old.rules old.log b Is (at_of old) name (look_of old.log (at_of old) (kept_what apart name) ∷ [])) (sym knows_it ∙ is)
      (known, known_is, ap (λ (b : Bool). look_of old.log (at_of old) (kept_what b name) ∷ []) apart_is);
  sees = sees;
}

-- Rows that are apart: nothing is noted.
pub kept_apart : (Is : Option (List RowImages) → Type 0) (name : Name) (given : Option (List KeyedRow)) (known : GivesKnown Is name given) (knows apart : Bool) (old : LaterScan)
    → knows ≡ is_known_table ((at_of old).rows.tables name) → knows ≡ true → apart ≡ is_apart_by (count_of old.rows) (option_map (map keys_in) given) → apart ≡ true → SeesKeptRows Is name old old
kept_apart Is name given known knows apart old is knows_it apart_is apart_it =
    kept_known Is name knows old old known.known true is knows_it known.is (sym apart_it ∙ apart_is ∙ apart_is_known)
    (record { at = refl; rules = refl; log = refl; grows = λ looks h. held_nothing (event_at old.log (at_of old)) looks old.tables h })
  where
    apart_is_known : is_apart_by (count_of old.rows) (option_map (map keys_in) given) ≡ is_apart (state_of (count_of old.rows)) name known.known
    apart_is_known = same_apart name known.known given (count_of old.rows) known.keys

-- Rows that aren't.
pub kept_near : (Is : Option (List RowImages) → Type 0) (name : Name) (given : Option (List KeyedRow)) (known : GivesKnown Is name given) (knows apart : Bool) (old new : LaterScan)
    → knows ≡ is_known_table ((at_of old).rows.tables name) → knows ≡ true → apart ≡ is_apart_by (count_of old.rows) (option_map (map keys_in) given) → apart ≡ false
    → Sees (look_of old.log (at_of old) (other (table name)) ∷ []) (at_of old) old new → SeesKeptRows Is name old new
kept_near Is name given known knows apart old new is knows_it apart_is near sees =
    kept_known Is name knows old new known.known false is knows_it known.is (sym near ∙ apart_is ∙ same_apart name known.known given (count_of old.rows) known.keys) sees

module _ (Is : Option (List RowImages) → Type 0) (place : RowsPlace) (name : Name) (old new : LaterScan) (left : List RowsPlace) (met : Bool) (is : met ≡ is_next place (at_of old).left)
    (leaves : left ≡ left_behind place (at_of old).left) (mid : LaterScan) (there : at_of mid ≡ record (at_of old) { left = left }) (rules : mid.rules ≡ old.rules) (log : mid.log ≡ old.log)
    (tables : mid.tables ≡ old.tables) where
  -- Behind the place of the event.
  abbrev passed : At
  passed = record (at_of old) { left = left_behind place (at_of old).left }

  at_passed : at_of mid ≡ passed
  at_passed = there ∙ ap (λ (l : List RowsPlace). let a : At = record (at_of old) { left = l } in a) leaves

  seen_from : (looks : List Look) (end : At) → Sees looks end mid new → Sees looks end old new
  seen_from looks end s = record {
    at = s.at;
    rules = s.rules ∙ rules;
    log = s.log ∙ log;
    grows = subst (λ (t : LaterTables). Grows looks t new.tables) tables s.grows;
  }

  kept_there : (b : Bool) (looks : List Look) → SeesKept old.rules old.log b Is passed name looks → SeesKept old.rules old.log b Is (at_of old) name looks
  kept_there false looks h = h
  kept_there true looks h = h

  pub checked_kept : met ≡ false → SeesKeptRows Is name mid new → SeesCheckedRows Is place name old new
  checked_kept isnt s =
      let here : SeesKept old.rules old.log (is_known_table (passed.rows.tables name)) Is passed name s.looks =
      subst (λ (a : At). SeesKept old.rules old.log (is_known_table (a.rows.tables name)) Is a name s.looks) at_passed
      (subst (λ (n : ℕ). SeesKept old.rules n (is_known_table ((at_of mid).rows.tables name)) Is (at_of mid) name s.looks) log
      (subst (λ (r : LaterRules). SeesKept r mid.log (is_known_table ((at_of mid).rows.tables name)) Is (at_of mid) name s.looks) rules s.seen)) in
      record {
        looks = s.looks;
        end = passed;
        seen = subst (λ (b : Bool). SeesChecked old.rules old.log b Is (at_of old) place name s.looks passed) (sym isnt ∙ is)
            (kept_there (is_known_table ((at_of old).rows.tables name)) s.looks here, refl);
        sees = subst (λ (a : At). Sees s.looks a old new) at_passed (seen_from s.looks (at_of mid) s.sees);
      }

  pub checked_met : met ≡ true → SeesUndoneRows Is name mid new → SeesCheckedRows Is place name old new
  checked_met was s =
      let rows : Left = (at_of new).rows in
      let end : At = record passed { rows = rows } in
      let looks : List Look = look_of old.log (at_of old) (undone name) ∷ [] in
      let left_there : Leaves name s.known (at_of old).rows rows = subst (λ (a : At). Leaves name s.known a.rows rows) at_passed s.leaves in
      let same_looks : look_of mid.log (at_of mid) (undone name) ≡ look_of old.log (at_of old) (undone name) =
      ap (λ (n : ℕ). look_of n (at_of mid) (undone name)) log ∙ ap (λ (a : At). look_of old.log a (undone name)) at_passed in
      let same_end : record (at_of mid) { rows = rows } ≡ end = ap (λ (a : At). let b : At = record a { rows = rows } in b) at_passed in
      record {
        looks = looks;
        end = end;
        seen = subst (λ (b : Bool). SeesChecked old.rules old.log b Is (at_of old) place name looks end) (sym was ∙ is) (s.known, s.is, rows, left_there, refl, refl);
        sees = subst (λ (l : Look). Sees (l ∷ []) end old new) same_looks
            (subst (λ (a : At). Sees (look_of mid.log (at_of mid) (undone name) ∷ []) a old new) same_end (seen_from (look_of mid.log (at_of mid) (undone name) ∷ []) (record (at_of mid) { rows = rows }) s.sees));
      }

-- ---- what an event says

pub said_checked : (Is : Option (List RowImages) → Type 0) (place : RowsPlace) (name : Name) (old new : LaterScan) → old.rules.checks_rows ≡ true → SeesCheckedRows Is place name old new
    → SeesSaid Is place (Some (table name)) old new
said_checked Is place name old new checks s = record {
  looks = s.looks;
  end = s.end;
  seen = subst (λ (b : Bool). SeesCauseIf old.rules old.log b Is (at_of old) place (Some (table name)) s.looks s.end) (sym checks) s.seen;
  sees = s.sees;
}

pub said_rows : (Is : Option (List RowImages) → Type 0) (place : RowsPlace) (name : Name) (old new : LaterScan) → old.rules.checks_rows ≡ false
    → Sees (look_at old.rules old.log (at_of old) place (Some (table name)) ∷ []) (behind (at_of old) place (Some (table name))) old new → SeesSaid Is place (Some (table name)) old new
said_rows Is place name old new checks s = record {
  looks = look_at old.rules old.log (at_of old) place (Some (table name)) ∷ [];
  end = behind (at_of old) place (Some (table name));
  seen = subst (λ (b : Bool). SeesCauseIf old.rules old.log b Is (at_of old) place (Some (table name)) (look_at old.rules old.log (at_of old) place (Some (table name)) ∷ []) (behind (at_of old) place (Some (table name)))) (sym checks) (refl, refl);
  sees = s;
}

nothing_if : (b : Bool) (Is : Option (List RowImages) → Type 0) (rules : LaterRules) (log : ℕ) (at : At) (place : RowsPlace) → SeesCauseIf rules log b Is at place None (look_at rules log at place None ∷ []) (behind at place None)
nothing_if true Is rules log at place = (refl, refl)
nothing_if false Is rules log at place = (refl, refl)

unknown_if : (b : Bool) (Is : Option (List RowImages) → Type 0) (rules : LaterRules) (log : ℕ) (at : At) (place : RowsPlace) (reason : Reason)
    → SeesCauseIf rules log b Is at place (Some (unknown reason)) (look_at rules log at place (Some (unknown reason)) ∷ []) (behind at place (Some (unknown reason)))
unknown_if true Is rules log at place reason = (refl, refl)
unknown_if false Is rules log at place reason = (refl, refl)

pub said_nothing : (Is : Option (List RowImages) → Type 0) (place : RowsPlace) (scan : LaterScan) → SeesSaid Is place None scan scan
said_nothing Is place scan = record {
  looks = look_at scan.rules scan.log (at_of scan) place None ∷ [];
  end = behind (at_of scan) place None;
  seen = nothing_if scan.rules.checks_rows Is scan.rules scan.log (at_of scan) place;
  sees = sees_nothing scan place;
}

pub said_unknown : (Is : Option (List RowImages) → Type 0) (place : RowsPlace) (reason : Reason) (old new : LaterScan)
    → Sees (unknown_at old.rules old.log (at_of old) reason ∷ []) (at_of old) old new → SeesSaid Is place (Some (unknown reason)) old new
said_unknown Is place reason old new s = record {
  looks = look_at old.rules old.log (at_of old) place (Some (unknown reason)) ∷ [];
  end = behind (at_of old) place (Some (unknown reason));
  seen = unknown_if old.rules.checks_rows Is old.rules old.log (at_of old) place reason;
  sees = s;
}

-- What is seen behind the place to which the visitor went on.
pub sees_behind : (looks : List Look) (at end : At) (old mid new : LaterScan) → Enters at old mid → Sees looks end mid new → Sees looks end old new
sees_behind looks at end old mid new enters sees = record {
  at = sees.at;
  rules = sees.rules ∙ enters.rules;
  log = sees.log ∙ enters.log;
  grows = subst (λ (t : LaterTables). Grows looks t new.tables) enters.tables sees.grows;
}

-- ---- visits

module _ (Is Other : Option (List RowImages) → Type 0) (to : (known : Option (List RowImages)) → Is known → Other known) (rules : LaterRules) (log : ℕ) (at : At) (place : RowsPlace)
    (looks : List Look) (end : At) where
  kept_as : (b : Bool) (name : Name) → SeesKept rules log b Is at name looks → SeesKept rules log b Other at name looks
  kept_as false name h = h
  kept_as true name h = (h.0, to h.0 h.1, h.2)

  checked_as : (met : Bool) (name : Name) → SeesChecked rules log met Is at place name looks end → SeesChecked rules log met Other at place name looks end
  checked_as true name h = (h.0, to h.0 h.1, h.2, h.3, h.4, h.5)
  checked_as false name h = (kept_as (is_known_table (at.rows.tables name)) name h.0, h.1)

  -- What is seen of an event, where more is known of its rows.
  cause_as : (checks : Bool) (cause : Option Cause) → SeesCauseIf rules log checks Is at place cause looks end → SeesCauseIf rules log checks Other at place cause looks end
  cause_as false cause h = h
  cause_as true None h = h
  cause_as true (Some (unknown reason)) h = h
  cause_as true (Some (table name)) h = checked_as (is_next place at.left) name h

-- What is seen there, by the names that are known of the place.
seen_there : (mid new : LaterScan) (rules : LaterRules) (log : ℕ) (at : At) (place : RowsPlace) (maps : TableMaps) (event : EventView) (read : Result (Option LogEventData) Error)
    (map second : Option TableMapEvent) (cause : Option Cause) (s : SeesSaid (KnowsIfMapped event map read) place cause mid new) → ReadsLogData event read → second ≡ map_for maps (rows_in read)
    → mid.rules ≡ rules → mid.log ≡ log → at_of mid ≡ at → map ≡ second → SeesCause rules log (Knows maps event) at place cause s.looks s.end
seen_there mid new rules log at place maps event read map second cause s reads is_second is_rules is_log is_at is_map =
    let here : SeesCause rules log (KnowsIfMapped event map read) at place cause s.looks s.end =
    subst (λ (a : At). SeesCause rules log (KnowsIfMapped event map read) a place cause s.looks s.end) is_at
    (subst (λ (n : ℕ). SeesCause rules n (KnowsIfMapped event map read) (at_of mid) place cause s.looks s.end) is_log
    (subst (λ (r : LaterRules). SeesCause r mid.log (KnowsIfMapped event map read) (at_of mid) place cause s.looks s.end) is_rules s.seen)) in
    cause_as (KnowsIfMapped event map read) (Knows maps event)
    (λ known h. record { read = read; reads = reads; is = subst (λ (m : Option TableMapEvent). KnowsIfMapped event m read known) (is_map ∙ is_second) h })
    rules log at place s.looks s.end rules.checks_rows cause here

damage_there : (mid new : LaterScan) (rules : LaterRules) (log : ℕ) (at : At) → mid.rules ≡ rules → mid.log ≡ log → at_of mid ≡ at
    → Sees (unknown_at mid.rules mid.log (stopped (at_of mid)) Damaged ∷ []) (stopped (at_of mid)) mid new → Sees (unknown_at rules log (stopped at) Damaged ∷ []) (stopped at) mid new
damage_there mid new rules log at is_rules is_log is_at s =
    subst (λ (a : At). Sees (unknown_at rules log (stopped a) Damaged ∷ []) (stopped a) mid new) is_at
    (subst (λ (n : ℕ). Sees (unknown_at rules n (stopped (at_of mid)) Damaged ∷ []) (stopped (at_of mid)) mid new) is_log
    (subst (λ (r : LaterRules). Sees (unknown_at r mid.log (stopped (at_of mid)) Damaged ∷ []) (stopped (at_of mid)) mid new) is_rules s))

pub on_ok : {A E : Type 0} (answer : Result A E) {P Q : Type 0} → (P → Q) → OnOk answer P → OnOk answer Q
on_ok (Ok value) to is = to is
on_ok (Err e) to is = tt

pub visited_event : (old mid new : LaterScan) (maps : TableMaps) (index : ℕ) (event : EventView) (read : Result (Option LogEventData) Error) (map : Option TableMapEvent) → old.is_stopped ≡ false
    → Enters (at_event (at_of old) index (length event.frame)) old mid → ReadsLogData event read → map ≡ map_for maps (rows_in read) → SeesRead (InLog old.end) event read map mid new
    → VisitsItem old maps index (Ok event) new
visited_event old mid new maps index event read map is_stopped enters reads is_map s =
    let at = at_event (at_of old) index (length event.frame) in
    let place = InLog old.end in
    let looks : List Look = s.said.looks in
    let end : At = s.said.end in
    let cause = cause_in s.role read (map_for maps (rows_in read)) in
    let same : cause_in s.role read map ≡ cause = ap (cause_in s.role read) is_map in
    let seen : SeesCause old.rules old.log (Knows maps event) at place (cause_in s.role read map) looks end =
    seen_there mid new old.rules old.log at place maps event read map (map_for maps (rows_in read)) (cause_in s.role read map) s.said reads refl enters.rules enters.log enters.at is_map in
    record {
      looks = looks;
      end = end;
      seen = subst (λ (b : Bool). SeesItemIf old.rules old.log b (at_of old) maps index (Ok event) looks end) (sym is_stopped) (
        cause,
        record { role = s.role; is_role = s.is_role; read = read; reads = reads; known = s.known; is = refl },
        subst (λ (c : Option Cause). SeesCause old.rules old.log (Knows maps event) at place c looks end) same seen,
      );
      sees = sees_behind looks at end old mid new enters s.said.sees;
    }

pub visited_part : (old mid new : LaterScan) (maps : TableMaps) (event : EventView) (read : Result (Option LogEventData) Error) (map : Option TableMapEvent) → old.is_stopped ≡ false
    → Enters (at_part (at_of old) (length event.frame)) old mid → ReadsLogData event read → map ≡ map_for maps (rows_in read) → SeesRead (InContent old.place old.inside) event read map mid new
    → VisitsOne old maps (Ok event) new
visited_part old mid new maps event read map is_stopped enters reads is_map s =
    let at = at_part (at_of old) (length event.frame) in
    let place = InContent old.place old.inside in
    let looks : List Look = s.said.looks in
    let end : At = s.said.end in
    let cause = cause_in s.role read (map_for maps (rows_in read)) in
    let same : cause_in s.role read map ≡ cause = ap (cause_in s.role read) is_map in
    let seen : SeesCause old.rules old.log (Knows maps event) at place (cause_in s.role read map) looks end =
    seen_there mid new old.rules old.log at place maps event read map (map_for maps (rows_in read)) (cause_in s.role read map) s.said reads refl enters.rules enters.log enters.at is_map in
    record {
      looks = looks;
      end = end;
      seen = subst (λ (b : Bool). SeesPartIf old.rules old.log b (at_of old) maps (Ok event) looks end) (sym is_stopped) (
        cause,
        record { role = s.role; is_role = s.is_role; read = read; reads = reads; known = s.known; is = refl },
        subst (λ (c : Option Cause). SeesCause old.rules old.log (Knows maps event) at place c looks end) same seen,
      );
      sees = sees_behind looks at end old mid new enters s.said.sees;
    }

pub visited_error : (old mid new : LaterScan) (maps : TableMaps) (index : ℕ) (error : Error) → old.is_stopped ≡ false → Enters (at_error (at_of old) index) old mid
    → Sees (unknown_at mid.rules mid.log (stopped (at_of mid)) Damaged ∷ []) (stopped (at_of mid)) mid new → VisitsItem old maps index (Err error) new
visited_error old mid new maps index error is_stopped enters s =
    let at = stopped (at_error (at_of old) index) in
    let sees : Sees (unknown_at old.rules old.log at Damaged ∷ []) at mid new = damage_there mid new old.rules old.log (at_error (at_of old) index) enters.rules enters.log enters.at s in
    record {
      looks = unknown_at old.rules old.log at Damaged ∷ [];
      end = at;
      seen = subst (λ (b : Bool). SeesItemIf old.rules old.log b (at_of old) maps index (Err error) (unknown_at old.rules old.log at Damaged ∷ []) at) (sym is_stopped) (refl, refl);
      sees = sees_behind (unknown_at old.rules old.log at Damaged ∷ []) (at_error (at_of old) index) at old mid new enters sees;
    }

pub visited_lack : (old new : LaterScan) (maps : TableMaps) (error : PayloadError) (limit : Bool) → old.is_stopped ≡ false → limit ≡ is_limit error
    → (looks : List Look) (end : At) → SeesLack old.rules old.log limit (at_of old) looks end → Sees looks end old new → VisitsOne old maps (Err error) new
visited_lack old new maps error limit is_stopped is looks end lack s = record {
  looks = looks;
  end = end;
  seen = subst (λ (b : Bool). SeesPartIf old.rules old.log b (at_of old) maps (Err error) looks end) (sym is_stopped)
      (subst (λ (b : Bool). SeesLack old.rules old.log b (at_of old) looks end) is lack);
  sees = s;
}

-- Nothing is looked at behind damage.
pub unvisited : (old : LaterScan) (maps : TableMaps) (index : ℕ) (item : Result EventView Error) → old.is_stopped ≡ true → VisitsItem old maps index item old
unvisited old maps index item is_stopped = record {
  looks = [];
  end = at_of old;
  seen = subst (λ (b : Bool). SeesItemIf old.rules old.log b (at_of old) maps index item [] (at_of old)) (sym is_stopped) (refl, refl);
  sees = sees_none old;
}

pub unvisited_part : (old : LaterScan) (maps : TableMaps) (part : Part) → old.is_stopped ≡ true → VisitsOne old maps part old
unvisited_part old maps part is_stopped = record {
  looks = [];
  end = at_of old;
  seen = subst (λ (b : Bool). SeesPartIf old.rules old.log b (at_of old) maps part [] (at_of old)) (sym is_stopped) (refl, refl);
  sees = sees_none old;
}
