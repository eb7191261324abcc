-- A log into which what undoes several files is written, one after the other.
use Rattle.std.specs.Prelude.{◌≡◌, ◌⊎◌, ℕ, true, List, [], ◌∷◌, ◌++◌, length, map, Option, Some, None}
use Rattle.binlog_consts.specs.declared.version.BinlogVersion.TheVariants.{Version4}
use Rattle.binlog_event_format.specs.FormatDescription.{default_description}
use Rattle.binlog_event_format.specs.declared.format_description.FormatDescriptionEvent.{FormatDescriptionEvent}
use Rattle.binlog_events.specs.Events.{EventView}
use Rattle.binlog_file.specs.Descriptions.{Describes, accepted, in_force}
use Rattle.binlog_undo.specs.declared.inverse_event.ForeignKeyChecks.{ForeignKeyChecks}
use Rattle.binlog_undo_index.specs.declared.places.ChangePlace.{ChangePlace}
use Rattle.binlog_undo_index.specs.declared.places.TransactionPlace.{TransactionPlace}
use Rattle.binlog_undo_log.specs.Descriptions.{written_description, description_body, has_checksums_under, IsUnder}
use Rattle.binlog_undo_log.specs.Places.{FramesOf}
use Rattle.binlog_undo_log.specs.Undoing.{UndoesAll}
use Rattle.binlog_undo_log.specs.WholeLogs.{IsLogOf, AreReadAs}
use Rattle.binlog_undo_log.specs.declared.output.UndoOutput.{UndoOutput}
use Rattle.binlog_undo.specs.Transactions.{Event}

-- Behind these events the description of some frame is in force, created at 0.
pub record IsInForce (events : List EventView) (d : FormatDescriptionEvent) : Type 0 where
  pub frame : List ℕ
  pub describes : Describes frame d
  pub is : in_force (default_description Version4) (map (λ (event : EventView). event.frame) events) ≡ written_description d

-- The output knows which description is in force behind these events, or that there are none.
abbrev pub KnowsDescription : {W : Type 0} → List EventView → UndoOutput W → Type 0
KnowsDescription events output =
    ((events ≡ []) × (output.description ≡ None))
    ⊎ ((d : FormatDescriptionEvent) × IsInForce events d × IsUnder (description_body d) (has_checksums_under d.footer.checksum_alg) output)

-- What was written so far is a log of these events. Each transaction is to have a BEGIN and an XID of its own.
pub record IsLogSoFar {W : Type 0} (contents : W → Option (List ℕ)) (events : List EventView) (output : UndoOutput W) : Type 0 where
  pub bytes : List ℕ
  pub has : contents output.writer ≡ Some bytes
  pub log : IsLogOf events bytes
  pub place : output.place ≡ length bytes
  pub bounds : output.has_bounds ≡ true
  pub description : KnowsDescription events output

-- A description, or none where it is in force already.
abbrev pub IsDescribedBy : FormatDescriptionEvent → List EventView → Type 0
IsDescribedBy d [] = Unit {0}
IsDescribedBy d (event ∷ events) = (accepted event.frame ≡ Some d) × (events ≡ [])

-- These events are a description, if it isn't in force already, and the events that undo these transactions.
pub record UndoFile (is_at : FramesOf) (checks : ForeignKeyChecks) (transactions : List TransactionPlace) (changes : List ChangePlace) (events : List EventView) : Type 0 where
  pub d : FormatDescriptionEvent
  pub written : List Event
  pub undoes : UndoesAll is_at d checks transactions changes written
  pub description : List EventView
  pub described : IsDescribedBy (written_description d) description
  pub others : List EventView
  pub are : AreReadAs (written_description d) written others
  pub all : events ≡ description ++ others

-- No event, if there are no transactions.
abbrev pub UndoIfAny : FramesOf → ForeignKeyChecks → List TransactionPlace → List ChangePlace → List EventView → Type 0
UndoIfAny is_at checks [] changes events = events ≡ []
UndoIfAny is_at checks (transaction ∷ transactions) changes events = UndoFile is_at checks (transaction ∷ transactions) changes events

-- The log has grown by the events that undo these transactions, and is a log again.
abbrev pub GrowsLog : {W : Type 0} → (W → Option (List ℕ)) → FramesOf → ForeignKeyChecks → List TransactionPlace → List ChangePlace → List EventView → UndoOutput W → Type 0
GrowsLog contents is_at checks transactions changes events output =
    (more : List EventView) × UndoIfAny is_at checks transactions changes more × IsLogSoFar contents (events ++ more) output
