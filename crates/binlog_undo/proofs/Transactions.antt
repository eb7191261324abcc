-- Events that are written one after the other.
use Rattle.std.proofs.Common.{◌≡◌, ℕ, ◌+◌, Bool, List, [], ◌∷◌, ◌++◌, refl, sym, ◌∙◌, ap, subst, append_assoc, append-nil}
use Rattle.std.specs.Prelude.{OnOk, Result, Ok, Err}
use Rattle.binlog_consts.specs.declared.event_type.EventType.TheVariants.{QUERY_EVENT, XID_EVENT, TABLE_MAP_EVENT}
use Rattle.binlog_event_format.specs.declared.header.BinlogEventHeader.{BinlogEventHeader}
use Rattle.binlog_undo.specs.Events.{event_size, event_bytes, FitsHeader, IsWritten, IsUnchanged, begin_body, xid_body}
use Rattle.binlog_undo.specs.Headings.{begin_heading, commit_heading, source_heading}
use Rattle.binlog_undo.specs.Transactions.{Event, AreWritten, events_bytes, AllFit, change_events, changes_events, transaction_events}
use Rattle.binlog_undo.specs.declared.events_writer.EventsWriter.{EventsWriter}
use Rattle.binlog_undo.specs.declared.undone_change.UndoneChange.{UndoneChange}
use Rattle.binlog_undo.specs.declared.write_error.WriteError.{WriteError}

unchanged : (writer : EventsWriter) → IsUnchanged writer writer
unchanged writer = record { bytes = refl; place = refl; checksums = refl }

-- Two events.
pub two_written : (change : UndoneChange) (old mid new : EventsWriter) → IsWritten (source_heading change.map_header) TABLE_MAP_EVENT change.map_body.now old mid
    → IsWritten (source_heading change.header) change.inverse.now.event_type change.inverse.now.body.items mid new → AreWritten (change_events change) old new
two_written change old mid new map inverse = (mid, map, (new, inverse, unchanged new))

pub two_written_if : (change : UndoneChange) (old mid new : EventsWriter) (answer : Result (Unit {0}) WriteError)
    → IsWritten (source_heading change.map_header) TABLE_MAP_EVENT change.map_body.now old mid
    → OnOk answer (IsWritten (source_heading change.header) change.inverse.now.event_type change.inverse.now.body.items mid new) → OnOk answer (AreWritten (change_events change) old new)
two_written_if change old mid new (Ok done) map inverse = two_written change old mid new map inverse
two_written_if change old mid new (Err error) map inverse = inverse

-- What is written behind an unchanged writer.
from_unchanged : (events : List Event) (old mid new : EventsWriter) → IsUnchanged old mid → AreWritten events mid new → AreWritten events old new
from_unchanged [] old mid new h w = record { bytes = w.bytes ∙ h.bytes; place = w.place ∙ h.place; checksums = w.checksums ∙ h.checksums }
from_unchanged (event ∷ events) old mid new h w = (
  w.0,
  record {
    bytes = w.1.bytes ∙ ap (λ (s : List ℕ). s ++ event_bytes mid.has_checksums mid.place event.heading event.event_type event.body) h.bytes
        ∙ ap (λ (b : Bool). old.bytes.items ++ event_bytes b mid.place event.heading event.event_type event.body) h.checksums
        ∙ ap (λ (p : ℕ). old.bytes.items ++ event_bytes old.has_checksums p event.heading event.event_type event.body) h.place;
    place = w.1.place ∙ ap (λ (p : ℕ). p + event_size mid.has_checksums event.body) h.place ∙ ap (λ (b : Bool). old.place + event_size b event.body) h.checksums;
    checksums = w.1.checksums ∙ h.checksums;
    fits = subst (λ (b : Bool). FitsHeader b old.place event.heading event.body) h.checksums (subst (λ (p : ℕ). FitsHeader mid.has_checksums p event.heading event.body) h.place w.1.fits);
  },
  w.2,
)

-- Events, and then others.
pub joined : (front events : List Event) (old mid new : EventsWriter) → AreWritten front old mid → AreWritten events mid new → AreWritten (front ++ events) old new
joined [] events old mid new h w = from_unchanged events old mid new h w
joined (event ∷ front) events old mid new h w = (h.0, h.1, joined front events h.0 mid new h.2 w)

-- A transaction.
pub all_written : (last : BinlogEventHeader) (changes : List UndoneChange) (xid : ℕ) (old first between new : EventsWriter) → IsWritten (begin_heading last) QUERY_EVENT begin_body old first
    → AreWritten (changes_events changes) first between → IsWritten (commit_heading last) XID_EVENT (xid_body xid) between new → AreWritten (transaction_events last changes xid) old new
all_written last changes xid old first between new begin middle end =
    let commit : List Event = record { heading = commit_heading last; event_type = XID_EVENT; body = xid_body xid } ∷ [] in
    (first, begin, joined (changes_events changes) commit first between new middle (new, end, unchanged new))

-- ---- the bytes

pub bytes_are : (events : List Event) (old new : EventsWriter) → AreWritten events old new → new.bytes.items ≡ old.bytes.items ++ events_bytes old.has_checksums old.place events
bytes_are [] old new h = h.bytes ∙ sym (append-nil old.bytes.items)
bytes_are (event ∷ events) old new h =
    let first : List ℕ = event_bytes old.has_checksums old.place event.heading event.event_type event.body in
    bytes_are events h.0 new h.2
    ∙ ap (λ (s : List ℕ). s ++ events_bytes h.0.has_checksums h.0.place events) h.1.bytes
    ∙ ap (λ (b : Bool). (old.bytes.items ++ first) ++ events_bytes b h.0.place events) h.1.checksums
    ∙ ap (λ (p : ℕ). (old.bytes.items ++ first) ++ events_bytes old.has_checksums p events) h.1.place
    ∙ append_assoc old.bytes.items first (events_bytes old.has_checksums (old.place + event_size old.has_checksums event.body) events)

-- ---- their sizes

pub all_fit : (events : List Event) (old new : EventsWriter) → AreWritten events old new → AllFit old.has_checksums old.place events
all_fit [] old new h = tt
all_fit (event ∷ events) old new h = (
  h.1.fits,
  subst (λ (b : Bool). AllFit b (old.place + event_size old.has_checksums event.body) events) h.1.checksums
      (subst (λ (p : ℕ). AllFit h.0.has_checksums p events) h.1.place (all_fit events h.0 new h.2)),
)
