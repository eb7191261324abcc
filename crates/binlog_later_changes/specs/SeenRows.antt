-- The rows of what is seen of the events of a log, where rows are checked.
use Rattle.std.specs.Prelude.{◌≡◌, ℕ, Bool, true, false, List, [], ◌∷◌, ◌++◌, length, Option, Some, None, Result, Ok, Err}
use Rattle.binlog_wire.specs.declared.error.Error.{Error}
use Rattle.binlog_events.specs.Events.{EventView}
use Rattle.binlog_file.specs.TableMapsInForce.{TableMaps, no_table_maps}
use Rattle.binlog_visits.specs.Places.{first_place}
use Rattle.binlog_visits.specs.TableMaps.{maps_behind}
use Rattle.binlog_payload_visits.specs.Parts.{Part, maps_behind_part}
use Rattle.binlog_payload_visits.specs.Splicing.{Shown, outside, inside}
use Rattle.change_statistics.specs.Facts.{Name}
use Rattle.binlog_later_changes.specs.Apart.{SeenRows, undone_rows, kept_rows}
use Rattle.binlog_later_changes.specs.KnownRows.{RowImages, Knows}
use Rattle.binlog_later_changes.specs.Later.{Cause, table, unknown, Look, is_behind}
use Rattle.binlog_later_changes.specs.Logs.{SeesLog}
use Rattle.binlog_later_changes.specs.Looks.{At, in_front, at_event, at_part, SeesKept, SeesChecked, SeesCauseIf, SeesItem, SeesItemIf, SeesPart, SeesPartIf, AreSeen}
use Rattle.binlog_later_changes.specs.Places.{is_next}
use Rattle.binlog_later_changes.specs.RowKeys.{Values}
use Rattle.binlog_later_changes.specs.RowsLeft.{Left, is_known_table}
use Rattle.binlog_later_changes.specs.declared.later_rules.LaterRules.{LaterRules}
use Rattle.binlog_later_changes.specs.declared.undone_events.RowsPlace.{RowsPlace}
use Rattle.binlog_later_changes.specs.declared.undone_events.RowsPlace.TheVariants.{InLog, InContent}

-- The rows of events that aren't read, by their places.
abbrev pub Unread : Type 0
Unread = RowsPlace → List RowImages

-- Rows, if they are known.
abbrev pub rows_if_known : (List RowImages → SeenRows) → Option (List RowImages) → List SeenRows
rows_if_known rows None = []
rows_if_known rows (Some images) = rows images ∷ []

-- The tables of which rows were left behind are those of which rows are undone in front.
pub record AreOf (before : List Look) (left : Left) : Type 0 where
  pub undone : (name : Name) (is_unknown : Bool) → left.tables name ≡ Some is_unknown → is_behind before (table name) ≡ true
  pub others : (name : Name) (row : Values) → left.tables name ≡ None → left.counts name row ≡ 0

module _ (rules : LaterRules) (log : ℕ) (unread : Unread) where
  -- Of rows that aren't undone: of a table of which none are undone in front, they may be any rows.
  abbrev pub rows_kept : (is_known_table : Bool) (Is : Option (List RowImages) → Type 0) (at : At) (place : RowsPlace) (name : Name) (looks : List Look)
      → SeesKept rules log is_known_table Is at name looks → List SeenRows
  rows_kept false Is at place name looks sees = kept_rows name (unread place) ∷ []
  rows_kept true Is at place name looks sees = rows_if_known (kept_rows name) sees.0

  abbrev pub rows_checked : (is_met : Bool) (Is : Option (List RowImages) → Type 0) (at : At) (place : RowsPlace) (name : Name) (looks : List Look) (end : At)
      → SeesChecked rules log is_met Is at place name looks end → List SeenRows
  rows_checked true Is at place name looks end sees = rows_if_known (undone_rows name) sees.0
  rows_checked false Is at place name looks end sees = rows_kept (is_known_table (at.rows.tables name)) Is at place name looks sees.0

  abbrev pub rows_of_cause : (checks_rows : Bool) (Is : Option (List RowImages) → Type 0) (at : At) (place : RowsPlace) (cause : Option Cause) (looks : List Look) (end : At)
      → SeesCauseIf rules log checks_rows Is at place cause looks end → List SeenRows
  rows_of_cause false Is at place cause looks end sees = []
  rows_of_cause true Is at place None looks end sees = []
  rows_of_cause true Is at place (Some (unknown reason)) looks end sees = []
  rows_of_cause true Is at place (Some (table name)) looks end sees = rows_checked (is_next place at.left) Is at place name looks end sees

  abbrev pub rows_of_item : (at : At) (maps : TableMaps) (index : ℕ) (item : Result EventView Error) (looks : List Look) (end : At)
      → SeesItem rules log at maps index item looks end → List SeenRows
  rows_of_item at maps index (Ok event) looks end sees =
      rows_of_cause rules.checks_rows (Knows maps event) (at_event at index (length event.frame)) (InLog at.end) sees.0 looks end sees.2
  rows_of_item at maps index (Err error) looks end sees = []

  abbrev pub rows_of_part : (at : At) (maps : TableMaps) (part : Part) (looks : List Look) (end : At) → SeesPart rules log at maps part looks end → List SeenRows
  rows_of_part at maps (Ok event) looks end sees =
      rows_of_cause rules.checks_rows (Knows maps event) (at_part at (length event.frame)) (InContent at.place at.inside) sees.0 looks end sees.2
  rows_of_part at maps (Err error) looks end sees = []

  abbrev pub rows_of_item_if : (is_stopped : Bool) (at : At) (maps : TableMaps) (index : ℕ) (item : Result EventView Error) (looks : List Look) (end : At)
      → SeesItemIf rules log is_stopped at maps index item looks end → List SeenRows
  rows_of_item_if true at maps index item looks end sees = []
  rows_of_item_if false at maps index item looks end sees = rows_of_item at maps index item looks end sees

  abbrev pub rows_of_part_if : (is_stopped : Bool) (at : At) (maps : TableMaps) (part : Part) (looks : List Look) (end : At)
      → SeesPartIf rules log is_stopped at maps part looks end → List SeenRows
  rows_of_part_if true at maps part looks end sees = []
  rows_of_part_if false at maps part looks end sees = rows_of_part at maps part looks end sees

  -- Of all events that are shown. Rows that are undone and aren't known are none of these.
  abbrev pub rows_seen : (at : At) (maps part_maps : TableMaps) (shown : List Shown) (looks : List Look) (end : At)
      → AreSeen rules log at maps part_maps shown looks end → List SeenRows
  rows_seen at maps part_maps [] looks end sees = []
  rows_seen at maps part_maps (outside index item ∷ shown) looks end (own, others, mid, first, more, is) =
      rows_of_item_if at.is_stopped at (maps_behind maps item) index item own mid first ++ rows_seen mid (maps_behind maps item) no_table_maps shown others end more
  rows_seen at maps part_maps (inside index number part ∷ shown) looks end (own, others, mid, first, more, is) =
      rows_of_part_if at.is_stopped at (maps_behind_part part_maps part) part own mid first ++ rows_seen mid maps (maps_behind_part part_maps part) shown others end more

  -- Of a whole log.
  abbrev pub rows_of_log : (undone : List RowsPlace) (bytes : List ℕ) (before behind : Left) (looks : List Look) → SeesLog rules log undone bytes before behind looks → List SeenRows
  rows_of_log undone bytes before behind looks sees =
      rows_seen (in_front before undone) (first_place sees.stream).state.table_maps no_table_maps sees.shown sees.seen sees.end sees.each
