-- The events that are written for a transaction that is undone.
use Rattle.std.specs.Prelude.{◌≡◌, ℕ, ◌+◌, ◌&&◌, Bool, List, [], ◌∷◌, ◌++◌, reverse, Result}
use Rattle.std.specs.List.{flat_map}
use Rattle.binlog_consts.specs.declared.event_type.EventType.{EventType}
use Rattle.binlog_consts.specs.declared.event_type.EventType.TheVariants.{QUERY_EVENT, XID_EVENT, TABLE_MAP_EVENT}
use Rattle.binlog_event_format.specs.declared.header.BinlogEventHeader.{BinlogEventHeader}
use Rattle.binlog_undo.specs.Events.{event_size, event_bytes, FitsHeader, IsWritten, IsUnchanged, fits, fits_at, RefusesAs, begin_body, xid_body}
use Rattle.binlog_undo.specs.Headings.{begin_heading, commit_heading, source_heading}
use Rattle.binlog_undo.specs.declared.events_writer.EventsWriter.{EventsWriter}
use Rattle.binlog_undo.specs.declared.heading.Heading.{Heading}
use Rattle.binlog_undo.specs.declared.undone_change.UndoneChange.{UndoneChange}
use Rattle.binlog_undo.specs.declared.write_error.WriteError.{WriteError}

-- ---- events one after the other

-- An event, but for its place.
pub record Event : Type 0 where
  pub heading : Heading
  pub event_type : EventType
  pub body : List ℕ

-- Each of these events is written behind the one before it.
abbrev pub AreWritten : List Event → EventsWriter → EventsWriter → Type 0
AreWritten [] old new = IsUnchanged old new
AreWritten (event ∷ events) old new = (between : EventsWriter) × IsWritten event.heading event.event_type event.body old between × AreWritten events between new

-- Their bytes, if the first one begins at this place of the log.
abbrev pub events_bytes : Bool → ℕ → List Event → List ℕ
events_bytes has_checksums place [] = []
events_bytes has_checksums place (event ∷ events) =
    event_bytes has_checksums place event.heading event.event_type event.body ++ events_bytes has_checksums (place + event_size has_checksums event.body) events

-- Each of them fits.
abbrev pub AllFit : Bool → ℕ → List Event → Type 0
AllFit has_checksums place [] = Unit {0}
AllFit has_checksums place (event ∷ events) =
    FitsHeader has_checksums place event.heading event.body × AllFit has_checksums (place + event_size has_checksums event.body) events

-- ---- a transaction

abbrev event : Heading → EventType → List ℕ → Event
event heading event_type body = record { heading = heading; event_type = event_type; body = body }

-- What undoes a row event: its table map, and the event that undoes it.
abbrev pub change_events : UndoneChange → List Event
change_events change =
    event (source_heading change.map_header) TABLE_MAP_EVENT change.map_body.now
    ∷ event (source_heading change.header) change.inverse.now.event_type change.inverse.now.body.items ∷ []

-- Both events fit, one behind the other.
abbrev pub fits_change : EventsWriter → UndoneChange → Bool
fits_change writer change =
    fits writer change.map_body.now
    && fits_at writer.has_checksums (writer.place + event_size writer.has_checksums change.map_body.now) change.inverse.now.body.items

-- Where they don't fit, that is the answer; and where they do, only memory may be refused.
abbrev pub RefusesChange : EventsWriter → UndoneChange → Result (Unit {0}) WriteError → Type 0
RefusesChange writer change answer = RefusesAs (fits_change writer change) answer

-- Bytes may be behind the others.
pub record HasGrown (old new : EventsWriter) : Type 0 where
  pub more : List ℕ
  pub bytes : new.bytes.items ≡ old.bytes.items ++ more
  pub checksums : new.has_checksums ≡ old.has_checksums

-- The last one first.
abbrev pub changes_events : List UndoneChange → List Event
changes_events changes = flat_map change_events (reverse changes)

-- A BEGIN, what undoes the row events, and an XID.
abbrev pub transaction_events : BinlogEventHeader → List UndoneChange → ℕ → List Event
transaction_events last changes xid =
    event (begin_heading last) QUERY_EVENT begin_body ∷ changes_events changes ++ event (commit_heading last) XID_EVENT (xid_body xid) ∷ []
