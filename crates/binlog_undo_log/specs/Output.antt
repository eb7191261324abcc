-- The bytes of the log that is written.
use Rattle.std.specs.Prelude.{◌≡◌, ℕ, ◌+◌, Bool, true, false, ◌||◌, not, List, [], ◌∷◌, Option}
use Rattle.std.specs.Io.KnownBytes.{Appends}
use Rattle.binlog_consts.specs.declared.event_type.EventType.{EventType}
use Rattle.binlog_consts.specs.declared.event_type.EventType.TheVariants.{QUERY_EVENT, XID_EVENT}
use Rattle.binlog_undo.specs.Events.{event_size}
use Rattle.binlog_undo.specs.Transactions.{Event, events_bytes, AllFit}
use Rattle.binlog_undo_log.specs.declared.output.UndoOutput.{UndoOutput}

-- The place behind events, of which the first one begins at this place.
abbrev pub place_behind : Bool → ℕ → List Event → ℕ
place_behind has_checksums place [] = place
place_behind has_checksums place (event ∷ events) = place_behind has_checksums (place + event_size has_checksums event.body) events

-- These events are written behind the log. `contents` are the bytes of its writer.
pub record Pushes {W : Type 0} (contents : W → Option (List ℕ)) (events : List Event) (old new : UndoOutput W) : Type 0 where
  pub bytes : Appends (contents old.writer) (contents new.writer) (events_bytes old.has_checksums old.place events)
  pub fit : AllFit old.has_checksums old.place events
  pub place : new.place ≡ place_behind old.has_checksums old.place events
  pub checksums : new.has_checksums ≡ old.has_checksums
  pub description : new.description ≡ old.description
  pub bounds : new.has_bounds ≡ old.has_bounds

-- The event begins or ends a transaction.
abbrev pub is_bound : EventType → Bool
is_bound QUERY_EVENT = true
is_bound XID_EVENT = true
is_bound event_type = false

abbrev pub shown_if : Bool → Event → List Event → List Event
shown_if true event events = event ∷ events
shown_if false event events = events

-- Which of these events are written: all, or, where all that is undone is one transaction, those that don't begin or end one.
abbrev pub shown : Bool → List Event → List Event
shown has_bounds [] = []
shown has_bounds (event ∷ events) = shown_if (has_bounds || not (is_bound event.event_type)) event (shown has_bounds events)

-- The log grew by these events, without those that begin and end a transaction where all is one.
abbrev pub Grows : {W : Type 0} → (W → Option (List ℕ)) → List Event → UndoOutput W → UndoOutput W → Type 0
Grows contents events old new = Pushes contents (shown old.has_bounds events) old new

-- Events of which this holds are written.
abbrev pub GrowsBy : {W : Type 0} → (W → Option (List ℕ)) → (List Event → Type 0) → UndoOutput W → UndoOutput W → Type 0
GrowsBy contents are old new = (events : List Event) × are events × Grows contents events old new
