-- What a visitor sees of the events of a log.
use Rattle.std.specs.Prelude.{◌≡◌, ℕ, ◌+◌, ◌-◌, ◌==◌, ◌^◌, min, Bool, true, false, List, [], ◌∷◌, ◌++◌, length, Option, Some, None, Result, Ok, Err, if◌then◌else◌}
use Rattle.binlog_wire.specs.declared.error.Error.{Error}
use Rattle.binlog_events.specs.Events.{EventView}
use Rattle.binlog_file.specs.TableMapsInForce.{TableMaps, no_table_maps}
use Rattle.binlog_visits.specs.TableMaps.{maps_behind}
use Rattle.binlog_payloads.specs.declared.error.PayloadError.{PayloadError}
use Rattle.binlog_payloads.specs.declared.error.PayloadError.TheVariants as payload_errors
use Rattle.binlog_payload_visits.specs.Parts.{Part, maps_behind_part}
use Rattle.binlog_payload_visits.specs.Splicing.{Shown, outside, inside}
use Rattle.binlog_transactions.specs.declared.refusal.Refusal.TheVariants as refusals
use Rattle.binlog_undo_index.specs.Skips.{is_skipped}
use Rattle.binlog_undo_index.specs.declared.reason.Reason.{Reason}
use Rattle.binlog_undo_index.specs.declared.reason.Reason.TheVariants as reasons
use Rattle.change_statistics.specs.Facts.{Name}
use Rattle.binlog_later_changes.specs.KnownRows.{RowImages, Knows}
use Rattle.binlog_later_changes.specs.Later.{Cause, table, unknown, What, nothing, undone, other, Look}
use Rattle.binlog_later_changes.specs.Places.{places_of, is_next, left_behind}
use Rattle.binlog_later_changes.specs.RowsLeft.{Left, left_of, Leaves, is_apart, is_known_table}
use Rattle.binlog_later_changes.specs.Said.{Says}
use Rattle.binlog_later_changes.specs.declared.later_change.EventPlace.{EventPlace}
use Rattle.binlog_later_changes.specs.declared.later_rules.LaterRules.{LaterRules}
use Rattle.binlog_later_changes.specs.declared.later_scan.LaterScan.{LaterScan}
use Rattle.binlog_later_changes.specs.declared.undone_events.RowsPlace.{RowsPlace}
use Rattle.binlog_later_changes.specs.declared.undone_events.RowsPlace.TheVariants.{InLog, InContent}

-- Where a visitor is in a log: the row events that are undone and weren't met; the item that is visited, its index and its place; the place
-- behind it, and that of the next event inside; how many items were visited; whether nothing that follows is looked at; and the rows that what is
-- undone has left behind, if rows are checked.
pub record At : Type 0 where
  pub left : List RowsPlace
  pub index : ℕ
  pub place : ℕ
  pub end : ℕ
  pub inside : ℕ
  pub items : ℕ
  pub is_stopped : Bool
  pub rows : Left

abbrev pub at_of : LaterScan → At
at_of scan = record {
  left = places_of scan.undone;
  index = scan.index;
  place = scan.place;
  end = scan.end;
  inside = scan.inside;
  items = scan.items;
  is_stopped = scan.is_stopped;
  rows = left_of scan.rows;
}

-- In front of a log of which these row events are undone, where these rows were left behind.
abbrev pub in_front : Left → List RowsPlace → At
in_front rows places = record { left = places; index = 0; place = 0; end = 4; inside = 0; items = 0; is_stopped = false; rows = rows }

abbrev pub most : ℕ
most = 2 ^ 64 - 1

-- ---- an event

abbrev pub unless_skipped : Bool → Reason → What
unless_skipped true reason = nothing
unless_skipped false reason = other (unknown reason)

abbrev pub rows_what : Bool → Name → What
rows_what true name = undone name
rows_what false name = other (table name)

-- What an event is that says this. `is_met` says whether it is the next row event that is undone. Events that may change any table aren't
-- noted if their transactions are left as they are for this reason.
abbrev pub what_of : LaterRules → (is_met : Bool) → Option Cause → What
what_of rules is_met None = nothing
what_of rules is_met (Some (table name)) = rows_what is_met name
what_of rules is_met (Some (unknown reason)) = unless_skipped (is_skipped rules.skips reason) reason

-- The row events that are left behind an event at this place that says this.
abbrev pub left_by : RowsPlace → List RowsPlace → Option Cause → List RowsPlace
left_by place left None = left
left_by place left (Some (table name)) = left_behind place left
left_by place left (Some (unknown reason)) = left

abbrev pub event_at : (log : ℕ) → At → EventPlace
event_at log at = record { log = log; index = at.index; place = at.place }

abbrev pub look_of : (log : ℕ) → At → What → Look
look_of log at what = record { event = event_at log at; what = what }

-- An event at this place that says this.
abbrev pub look_at : LaterRules → (log : ℕ) → At → RowsPlace → Option Cause → Look
look_at rules log at place cause = look_of log at (what_of rules (is_next place at.left) cause)

abbrev pub behind : At → RowsPlace → Option Cause → At
behind at place cause = record at { left = left_by place at.left cause }

-- What is visited may change any table, for this reason.
abbrev pub unknown_at : LaterRules → (log : ℕ) → At → Reason → Look
unknown_at rules log at reason = look_of log at (unless_skipped (is_skipped rules.skips reason) reason)

-- ---- items and parts

-- At the item with this index, of so many bytes, and at one that is an error.
abbrev pub at_event : At → (index size : ℕ) → At
at_event at index size = record at { index = index; place = at.end; end = min (at.end + size) most; inside = 0; items = min (index + 1) most }

abbrev pub at_error : At → (index : ℕ) → At
at_error at index = record at { index = index; place = at.end }

abbrev pub at_tail : At → At
at_tail at = record at { index = at.items; place = at.end }

abbrev pub stopped : At → At
stopped at = record at { is_stopped = true }

abbrev pub at_part : At → (size : ℕ) → At
at_part at size = record at { inside = min (at.inside + size) most }

-- A content is too long.
abbrev pub is_limit : PayloadError → Bool
is_limit payload_errors.Limit = true
is_limit error = false

-- Rows that aren't undone, of a table of which rows are undone. They may be in the way unless they are apart.
abbrev pub kept_what : (is_apart : Bool) → Name → What
kept_what true name = nothing
kept_what false name = other (table name)

module _ (rules : LaterRules) (log : ℕ) where
  -- What is seen of rows of a table that aren't undone, where rows are checked: nothing, if rows of the table are undone, those of all undone events of
  -- it are known, and so are these, and none of them removes a row that was left behind. `Is` says what is known of them.
  abbrev pub SeesKept : (is_known_table : Bool) → (Option (List RowImages) → Type 0) → At → Name → List Look → Type 0
  SeesKept false Is at name looks = looks ≡ look_of log at (other (table name)) ∷ []
  SeesKept true Is at name looks = (known : Option (List RowImages)) × Is known × (looks ≡ look_of log at (kept_what (is_apart at.rows.counts name known) name) ∷ [])

  -- Of rows that are undone or aren't.
  abbrev pub SeesChecked : (is_met : Bool) → (Option (List RowImages) → Type 0) → At → RowsPlace → Name → List Look → At → Type 0
  SeesChecked true Is at place name looks end =
      (known : Option (List RowImages)) × Is known × (rows : Left) × Leaves name known at.rows rows × (looks ≡ look_of log at (undone name) ∷ [])
      × (end ≡ record at { left = left_behind place at.left; rows = rows })
  SeesChecked false Is at place name looks end = SeesKept (is_known_table (at.rows.tables name)) Is at name looks × (end ≡ record at { left = left_behind place at.left })

  -- Of an event at this place that says this.
  abbrev pub SeesCauseIf : (checks_rows : Bool) → (Option (List RowImages) → Type 0) → At → RowsPlace → Option Cause → List Look → At → Type 0
  SeesCauseIf false Is at place cause looks end = (looks ≡ look_at rules log at place cause ∷ []) × (end ≡ behind at place cause)
  SeesCauseIf true Is at place None looks end = (looks ≡ look_at rules log at place None ∷ []) × (end ≡ behind at place None)
  SeesCauseIf true Is at place (Some (unknown reason)) looks end = (looks ≡ look_at rules log at place (Some (unknown reason)) ∷ []) × (end ≡ behind at place (Some (unknown reason)))
  SeesCauseIf true Is at place (Some (table name)) looks end = SeesChecked (is_next place at.left) Is at place name looks end

  abbrev pub SeesCause : (Option (List RowImages) → Type 0) → At → RowsPlace → Option Cause → List Look → At → Type 0
  SeesCause Is at place cause looks end = SeesCauseIf rules.checks_rows Is at place cause looks end

  -- What is seen of an item that is looked at.
  abbrev pub SeesItem : At → TableMaps → ℕ → Result EventView Error → List Look → At → Type 0
  SeesItem at maps index (Ok event) looks end =
      (cause : Option Cause) × Says maps event cause × SeesCause (Knows maps event) (at_event at index (length event.frame)) (InLog at.end) cause looks end
  SeesItem at maps index (Err error) looks end =
      (looks ≡ unknown_at rules log (stopped (at_error at index)) reasons.Damaged ∷ []) × (end ≡ stopped (at_error at index))

  -- Of an error in the place of an event inside: a content that is too long, or damage.
  abbrev pub SeesLack : Bool → At → List Look → At → Type 0
  SeesLack true at looks end = (looks ≡ unknown_at rules log at (reasons.Transaction refusals.Payload) ∷ []) × (end ≡ at)
  SeesLack false at looks end = (looks ≡ unknown_at rules log (stopped at) reasons.Damaged ∷ []) × (end ≡ stopped at)

  -- Of a part.
  abbrev pub SeesPart : At → TableMaps → Part → List Look → At → Type 0
  SeesPart at maps (Ok event) looks end =
      (cause : Option Cause) × Says maps event cause × SeesCause (Knows maps event) (at_part at (length event.frame)) (InContent at.place at.inside) cause looks end
  SeesPart at maps (Err error) looks end = SeesLack (is_limit error) at looks end

  -- Behind damage nothing is looked at.
  abbrev pub SeesItemIf : Bool → At → TableMaps → ℕ → Result EventView Error → List Look → At → Type 0
  SeesItemIf true at maps index item looks end = (looks ≡ []) × (end ≡ at)
  SeesItemIf false at maps index item looks end = SeesItem at maps index item looks end

  abbrev pub SeesPartIf : Bool → At → TableMaps → Part → List Look → At → Type 0
  SeesPartIf true at maps part looks end = (looks ≡ []) × (end ≡ at)
  SeesPartIf false at maps part looks end = SeesPart at maps part looks end

  -- ---- a log

  -- What is seen of items one after another, each with its parts behind it, where these table maps are in force in front of the first one.
  abbrev pub AreSeen : At → TableMaps → TableMaps → List Shown → List Look → At → Type 0
  AreSeen at maps part_maps [] looks end = (looks ≡ []) × (end ≡ at)
  AreSeen at maps part_maps (outside index item ∷ shown) looks end =
      (own : List Look) × (others : List Look) × (mid : At) × SeesItemIf at.is_stopped at (maps_behind maps item) index item own mid
      × AreSeen mid (maps_behind maps item) no_table_maps shown others end × (looks ≡ own ++ others)
  AreSeen at maps part_maps (inside index number part ∷ shown) looks end =
      (own : List Look) × (others : List Look) × (mid : At) × SeesPartIf at.is_stopped at (maps_behind_part part_maps part) part own mid
      × AreSeen mid maps (maps_behind_part part_maps part) shown others end × (looks ≡ own ++ others)

  -- The end of a log behind which this is the length of the tail: a tail is seen as an event that may change any table.
  abbrev pub tail_seen : Option ℕ → At → List Look
  tail_seen None at = unknown_at rules log (at_tail at) reasons.Tail ∷ []
  tail_seen (Some tail_len) at = if tail_len == 0 then [] else unknown_at rules log (at_tail at) reasons.Tail ∷ []

  abbrev pub tail_looks : (is_stopped : Bool) → Option ℕ → At → List Look
  tail_looks true tail_len at = []
  tail_looks false tail_len at = tail_seen tail_len at
