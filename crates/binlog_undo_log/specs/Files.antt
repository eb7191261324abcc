-- Both passes over a whole file.
use Rattle.std.specs.Prelude.{◌≡◌, ◌⊎◌, ℕ, ◌+◌, true, false, List, [], ◌∷◌, ◌++◌, Option, Some, None, is_none, Result, Ok, Err}
use Rattle.std.specs.List.{AllByRecursion}
use Rattle.binlog_consts.specs.declared.version.BinlogVersion.TheVariants.{Version4}
use Rattle.binlog_event_format.specs.FormatDescription.{default_description, format_description, IsFormatDescription}
use Rattle.binlog_event_format.specs.Headers.{header_of}
use Rattle.binlog_event_format.specs.declared.format_description.FormatDescriptionEvent.{FormatDescriptionEvent}
use Rattle.binlog_events.specs.Events.{EventView}
use Rattle.binlog_events.specs.FileHeader.{file_header}
use Rattle.binlog_events.specs.Parts.{is_description, data_of}
use Rattle.binlog_file.specs.TableMapsInForce.{TableMaps, no_table_maps}
use Rattle.binlog_file.specs.VerifiedFiles.{AreVerifiedItems}
use Rattle.binlog_visits.specs.TableMaps.{maps_behind}
use Rattle.binlog_visits.specs.Visits.{VisitRelation, RefusalRelation, VisitsVerifiedLog, HasTailAt}
use Rattle.binlog_visits.specs.Places.{first_place}
use Rattle.binlog_wire.specs.declared.error.Error.{Error}
use Rattle.binlog_wire.specs.declared.error.Error.TheVariants.{Memory}
use Rattle.binlog_wire.specs.Reading.{Gives}
use Rattle.crc32_ieee.specs.Checksums.{IsCrc32}
use Rattle.binlog_undo.specs.declared.inverse_event.ForeignKeyChecks.{ForeignKeyChecks}
use Rattle.binlog_undo_index.specs.Groups.{Group, told_events, groups_in, kept_in, refused_in}
use Rattle.binlog_undo_index.specs.Index.{Keeps}
use Rattle.binlog_undo_index.specs.Parts.{parts_of, no_parts}
use Rattle.binlog_undo_index.specs.declared.places.ChangePlace.{ChangePlace}
use Rattle.binlog_undo_index.specs.declared.places.TransactionPlace.{TransactionPlace}
use Rattle.binlog_undo_index.specs.declared.reason.Refused.{Refused as RefusedAt}
use Rattle.binlog_undo_index.specs.declared.rules.Rules.{Rules}
use Rattle.binlog_undo_index.specs.declared.seen.SeenEvent.{SeenEvent}
use Rattle.binlog_undo_index.specs.declared.skips.Skips.{Skips}
use Rattle.binlog_undo_log.specs.Descriptions.{DescribesOnce}
use Rattle.binlog_undo_log.specs.Heads.{is_writable}
use Rattle.binlog_undo_log.specs.Output.{GrowsBy}
use Rattle.binlog_undo_log.specs.Choices.{rules_of}
use Rattle.binlog_undo_log.specs.Contents.{ScansItem, SeesEvent}
use Rattle.binlog_undo_log.specs.Scanning.{EndsScan, border_at, is_past_stop}
use Rattle.binlog_undo_log.specs.Places.{FramesOf}
use Rattle.binlog_undo_log.specs.Undoing.{IsEventAt, UndoesAll}
use Rattle.binlog_undo_log.specs.declared.choice.Choice.{Choice}
use Rattle.binlog_undo_log.specs.declared.output.UndoOutput.{UndoOutput}
use Rattle.binlog_undo_log.specs.declared.scan.UndoScan.{UndoScan}

-- ---- the first pass

-- A pass in front of the first item of a file.
pub record IsFresh (choice : Choice) (checks : ForeignKeyChecks) (skips : Skips) (scan : UndoScan) : Type 0 where
  pub choice_is : scan.choice ≡ choice
  pub checks_are : scan.checks ≡ checks
  pub automaton : scan.index.automaton.current ≡ None
  pub parts : parts_of scan.index ≡ no_parts (rules_of choice skips)
  pub place : scan.place ≡ 4
  pub description : scan.description ≡ None
  pub goes_on : scan.is_stopped ≡ false
  pub wanted : scan.is_wanted ≡ is_none choice.transactions.include_gtids
  pub items : scan.items ≡ 0

-- What a visit makes of a pass, and when it is refused.
abbrev pub scans : VisitRelation UndoScan
scans old maps index item new = ScansItem old.is_stopped maps index item old new

abbrev pub refuses : RefusalRelation UndoScan
refuses old maps index item error new = error ≡ Memory

-- All items of a file of these bytes are scanned, with their checksums verified, and then its end.
pub record ScansWhole (bytes : List ℕ) (old new : UndoScan) : Type 0 where
  pub tail_len : Option ℕ
  pub between : UndoScan
  pub visits : VisitsVerifiedLog IsCrc32 scans refuses bytes old (Ok tail_len) between
  pub ends : EndsScan between.is_stopped tail_len between new

-- The results of the first pass over a file of these bytes.
abbrev pub ScansFile : List ℕ → UndoScan → Result (Unit {0}) Error → UndoScan → Type 0
ScansFile bytes old (Ok done) new = ScansWhole bytes old new
ScansFile bytes old (Err error) new = VisitsVerifiedLog IsCrc32 scans refuses bytes old (Err error) new ⊎ (error ≡ Memory)

-- ---- what was scanned

-- Each of these items is an event, and this is seen of them and of the events inside, where a compressed transaction stands for these. None
-- ends the pass. `maps` are the table maps in front of the first one.
abbrev pub AreSeen : TableMaps → ℕ → List (Result EventView Error) → List SeenEvent → UndoScan → UndoScan → Type 0
AreSeen maps index [] seen old new = (seen ≡ []) × (new ≡ old)
AreSeen maps index (item ∷ items) seen old new =
    (event : EventView) × (own : List SeenEvent) × (others : List SeenEvent) × (mid : UndoScan) × (item ≡ Ok event) × (seen ≡ own ++ others)
    × SeesEvent (maps_behind maps item) index event own old mid × (mid.is_stopped ≡ false) × AreSeen (maps_behind maps item) (index + 1) items others mid new

abbrev pub groups_of : List SeenEvent → List Group
groups_of events = groups_in [] (told_events None events)

-- Each refusal is one that is skipped.
abbrev pub AreSkipped : List RefusedAt → Type 0
AreSkipped refusals = AllByRecursion (λ refusal. refusal.is_skipped ≡ true) refusals

-- All items of the file are events, with nothing behind them; or those in front of the stop position are, and those of a transaction that
-- begins there. The places that are kept are those of the transactions of these events that are undone, and what is refused is refused
-- of the transactions.
pub record IsScanned (rules : Rules) (bytes : List ℕ) (start scan : UndoScan) : Type 0 where
  pub stream : List ℕ
  pub file : bytes ≡ file_header ++ stream
  pub items : List (Result EventView Error)
  pub are : AreVerifiedItems IsCrc32 (default_description Version4) stream items
  pub front : List (Result EventView Error)
  pub rest : List (Result EventView Error)
  pub split : items ≡ front ++ rest
  pub seen : List SeenEvent
  pub behind : UndoScan
  pub each : AreSeen no_table_maps 0 front seen start behind
  pub ends : (rest ≡ []) × HasTailAt (first_place stream) (Some 0) ⊎ (is_past_stop behind ≡ true)
  pub keeps : Keeps (kept_in rules (groups_of (seen ++ border_at behind ∷ []))) (parts_of scan.index).transactions (parts_of scan.index).changes
  pub refused : (parts_of scan.index).refusals ≡ refused_in rules (groups_of (seen ++ border_at behind ∷ []))

-- ---- the second pass

-- The event is a description, which is read as this one, with the event's own footer. The events that undo a log can be written under it.
pub record IsDescribed (event : EventView) (d : FormatDescriptionEvent) : Type 0 where
  pub is : is_description event.frame ≡ true
  pub body : FormatDescriptionEvent
  pub reads : Gives ⊥ [] (Ok body) (format_description.reads (data_of event.fde.footer event.frame))
  pub spelled : IsFormatDescription (data_of event.fde.footer event.frame) body []
  pub footer : d ≡ record body { footer = event.fde.footer }
  pub writable : is_writable d ≡ true

-- The description at a place is written, and what undoes these transactions, the last one first.
pub record WritesDescribed {W : Type 0} (contents : W → Option (List ℕ)) (is_at : FramesOf) (checks : ForeignKeyChecks) (place : ℕ)
    (transactions : List TransactionPlace) (changes : List ChangePlace) (old new : UndoOutput W) : Type 0 where
  pub event : EventView
  pub event_at : IsEventAt is_at (default_description Version4) place event
  pub d : FormatDescriptionEvent
  pub described : IsDescribed event d
  pub between : UndoOutput W
  pub describes : DescribesOnce contents (header_of event.frame) d old between
  pub undoes : GrowsBy contents (UndoesAll is_at d checks transactions changes) between new

abbrev pub WritesAt : {W : Type 0} → (W → Option (List ℕ)) → FramesOf → ForeignKeyChecks → Option ℕ → List TransactionPlace → List ChangePlace → UndoOutput W → UndoOutput W → Type 0
WritesAt contents is_at checks None transactions changes old new = ⊥
WritesAt contents is_at checks (Some place) transactions changes old new = WritesDescribed contents is_at checks place transactions changes old new

-- Nothing is written where no transaction is undone.
abbrev pub WritesIfAny : {W : Type 0} → (W → Option (List ℕ)) → FramesOf → ForeignKeyChecks → Option ℕ → List TransactionPlace → List ChangePlace → UndoOutput W → UndoOutput W → Type 0
WritesIfAny contents is_at checks place [] changes old new = new ≡ old
WritesIfAny contents is_at checks place (transaction ∷ transactions) changes old new = WritesAt contents is_at checks place (transaction ∷ transactions) changes old new

-- The second pass over a file.
abbrev pub WritesFile : {W : Type 0} → (W → Option (List ℕ)) → FramesOf → UndoScan → UndoOutput W → UndoOutput W → Type 0
WritesFile contents is_at scan old new =
    WritesIfAny contents is_at scan.checks scan.description (parts_of scan.index).transactions (parts_of scan.index).changes old new
