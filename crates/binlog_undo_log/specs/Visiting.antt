-- The row events that are undone of a file, with their table maps.
use Rattle.std.specs.Prelude.{◌≡◌, ℕ, List, [], ◌∷◌, ◌++◌, length, Option, Some, None}
use Rattle.binlog_consts.specs.declared.version.BinlogVersion.TheVariants.{Version4}
use Rattle.binlog_event_format.specs.FormatDescription.{default_description}
use Rattle.binlog_event_format.specs.declared.format_description.FormatDescriptionEvent.{FormatDescriptionEvent}
use Rattle.binlog_events.specs.Events.{EventView}
use Rattle.binlog_rows.specs.declared.table_map_event.TableMapEvent.{TableMapEvent}
use Rattle.binlog_undo_index.specs.Parts.{parts_of}
use Rattle.binlog_undo_index.specs.declared.places.ChangePlace.{ChangePlace}
use Rattle.binlog_undo_index.specs.declared.places.TransactionPlace.{TransactionPlace}
use Rattle.binlog_undo_log.specs.Files.{IsDescribed}
use Rattle.binlog_undo_log.specs.Places.{FramesOf, AtPlaces}
use Rattle.binlog_undo_log.specs.Undoing.{IsEventAt, ReadsMap}
use Rattle.binlog_undo_log.specs.declared.scan.UndoScan.{UndoScan}

-- A row event, and the table map of its table.
pub record MappedRows : Type 0 where
  pub map : TableMapEvent
  pub event : EventView

-- What a visit of rows of a table makes of a visitor.
abbrev pub RowsRelation : Type 0 → Type 1
RowsRelation V = V → TableMapEvent → EventView → V → Type 0

-- ---- visits

module _ {V : Type 0} (visits : RowsRelation V) where
  -- These row events are visited, one after the other.
  abbrev pub VisitsEach : List MappedRows → V → V → Type 0
  VisitsEach [] old new = new ≡ old
  VisitsEach (rows ∷ others) old new = (mid : V) × visits old rows.map rows.event mid × VisitsEach others mid new

  -- So are row events of which this holds.
  abbrev pub VisitsThose : (List MappedRows → Type 0) → V → V → Type 0
  VisitsThose are old new = (rows : List MappedRows) × are rows × VisitsEach rows old new

-- ---- row events

-- The table map that was read of an event.
abbrev pub AreMapped : (map_event event : EventView) → List MappedRows → Type 0
AreMapped map_event event rows = (map : TableMapEvent) × ReadsMap map_event map × (rows ≡ record { map = map; event = event } ∷ [])

-- The row event at a place, with the table map at its place.
pub record AreAt (is_at : FramesOf) (fde : FormatDescriptionEvent) (change : ChangePlace) (rows : List MappedRows) : Type 0 where
  pub map_event : EventView
  pub map_at : IsEventAt is_at fde change.table_map map_event
  pub event : EventView
  pub event_at : IsEventAt is_at fde change.rows event
  pub are : AreMapped map_event event rows

-- Those at these places, the last one first.
abbrev pub AreAtEach : FramesOf → FormatDescriptionEvent → List ChangePlace → List MappedRows → Type 0
AreAtEach is_at fde [] rows = rows ≡ []
AreAtEach is_at fde (change ∷ changes) rows =
    (front : List MappedRows) × (own : List MappedRows) × AreAtEach is_at fde changes front × AreAt is_at fde change own × (rows ≡ front ++ own)

-- Those of a transaction with this last event, in its file or in the content of that event.
abbrev pub AreOwn : FramesOf → FormatDescriptionEvent → EventView → List ChangePlace → List MappedRows → Type 0
AreOwn is_at fde event changes rows = AtPlaces (λ (among : FramesOf) (d : FormatDescriptionEvent). AreAtEach among d changes rows) is_at fde event

-- Those of a transaction whose last event is at this place.
pub record AreOfTransaction (is_at : FramesOf) (fde : FormatDescriptionEvent) (last : ℕ) (changes : List ChangePlace) (rows : List MappedRows) : Type 0 where
  pub event : EventView
  pub event_at : IsEventAt is_at fde last event
  pub own : AreOwn is_at fde event changes rows

-- Those of all transactions, the last one first. The changes are those of the transactions, one after the other, of each as many as it states.
abbrev pub AreOfAll : FramesOf → FormatDescriptionEvent → List TransactionPlace → List ChangePlace → List MappedRows → Type 0
AreOfAll is_at fde [] changes rows = (changes ≡ []) × (rows ≡ [])
AreOfAll is_at fde (transaction ∷ transactions) changes rows =
    (own : List ChangePlace) × (others : List ChangePlace) × (front : List MappedRows) × (mine : List MappedRows)
    × (changes ≡ own ++ others) × (length own ≡ transaction.changes) × AreOfAll is_at fde transactions others front
    × AreOfTransaction is_at fde transaction.last own mine × (rows ≡ front ++ mine)

-- Those of these transactions, under the description at a place.
pub record AreUnder (is_at : FramesOf) (place : ℕ) (transactions : List TransactionPlace) (changes : List ChangePlace) (rows : List MappedRows) : Type 0 where
  pub event : EventView
  pub event_at : IsEventAt is_at (default_description Version4) place event
  pub d : FormatDescriptionEvent
  pub described : IsDescribed event d
  pub are : AreOfAll is_at d transactions changes rows

abbrev pub AreUnderAny : FramesOf → Option ℕ → List TransactionPlace → List ChangePlace → List MappedRows → Type 0
AreUnderAny is_at None transactions changes rows = ⊥
AreUnderAny is_at (Some place) transactions changes rows = AreUnder is_at place transactions changes rows

abbrev pub AreIfAny : FramesOf → Option ℕ → List TransactionPlace → List ChangePlace → List MappedRows → Type 0
AreIfAny is_at place [] changes rows = rows ≡ []
AreIfAny is_at place (transaction ∷ transactions) changes rows = AreUnderAny is_at place (transaction ∷ transactions) changes rows

-- The row events that are undone of a file, of which these places were kept: the last one first.
abbrev pub AreUndoneRows : FramesOf → UndoScan → List MappedRows → Type 0
AreUndoneRows is_at scan rows = AreIfAny is_at scan.description (parts_of scan.index).transactions (parts_of scan.index).changes rows
