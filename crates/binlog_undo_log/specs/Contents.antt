-- What the first pass sees inside a compressed transaction of MySQL's: its events, one after the other, in place of the event that has
-- them.
use Rattle.std.specs.Prelude.{◌≡◌, ◌≢◌, ◌⊎◌, ℕ, ◌+◌, ◌-◌, ◌^◌, min, ◌==◌, Bool, true, false, ◌&&◌, List, [], ◌∷◌, ◌++◌, length, flat_map, Option, Some, None, Result, Ok, Err}
use Rattle.std.specs.List.{AllByRecursion}
use Rattle.binlog_consts.specs.declared.version.BinlogVersion.TheVariants.{Version4}
use Rattle.binlog_event_format.specs.Headers.{header_of}
use Rattle.binlog_event_format.specs.declared.format_description.FormatDescriptionEvent.{FormatDescriptionEvent}
use Rattle.binlog_events.specs.Events.{EventView, event_of}
use Rattle.binlog_file.specs.State.{StreamState, first_state}
use Rattle.binlog_file.specs.TableMapsInForce.{TableMaps}
use Rattle.binlog_filters.specs.Taking.{FollowsEvent}
use Rattle.binlog_payloads.specs.Contents.{content_of}
use Rattle.binlog_payloads.specs.Decompressed.{content_behind, content_item}
use Rattle.binlog_payloads.specs.Events.{payload_in}
use Rattle.binlog_payloads.specs.Fields.{Payload}
use Rattle.binlog_payloads.specs.InnerEvents.{HasNoInner, IsInner, inner_fde}
use Rattle.binlog_payloads.specs.declared.error.PayloadError.{PayloadError}
use Rattle.binlog_payloads.specs.declared.error.PayloadError.TheVariants as errors
use Rattle.binlog_wire.specs.declared.error.Error.{Error}
use Rattle.binlog_transactions.specs.declared.mark.Mark.TheVariants as marks
use Rattle.binlog_undo_index.specs.Parts.{parts_of}
use Rattle.binlog_undo_index.specs.Positions.{has_place}
use Rattle.binlog_undo_index.specs.declared.reason.Reason.TheVariants as reasons
use Rattle.binlog_undo_index.specs.declared.seen.SeenEvent.{SeenEvent}
use Rattle.binlog_undo_log.specs.Choices.{positions_of, takes_first}
use Rattle.binlog_undo_log.specs.Compressed.{most_bytes}
use Rattle.binlog_undo_log.specs.Places.{HasContent}
use Rattle.binlog_undo_log.specs.Scanning.{Sees, NotesIn, NotesIf, Stops, place_behind, Closes, is_past_stop}
use Rattle.binlog_undo_log.specs.declared.scan.content.Lack.{Lack}
use Rattle.binlog_undo_log.specs.declared.scan.content.Lack.TheVariants as lacks
use Rattle.binlog_undo_log.specs.declared.scan.content.Span.{Span}
use Rattle.binlog_undo_log.specs.declared.scan.UndoScan.{UndoScan}

-- ---- an event inside

-- What is seen of an event inside is seen where the event is that has it. A transaction that begins inside is taken by the position of that.
abbrev pub inside : Span → UndoScan → EventView → SeenEvent → SeenEvent
inside span scan event seen = record seen {
  place = span.place;
  end = span.end;
  takes_first = has_place (positions_of scan.choice) span.place && takes_first scan.choice (header_of event.frame) scan.is_wanted;
}

-- An event inside is seen and noted as the event of a log. It is read at its place in the content; these table maps are in force.
pub record SeesInside (span : Span) (maps : TableMaps) (index : ℕ) (event : EventView) (first : SeenEvent) (old new : UndoScan) : Type 0 where
  pub own : SeenEvent
  pub sees : Sees old maps index event (Some own)
  pub is : first ≡ inside span old event own
  pub notes : NotesIn first old.index new.index
  pub passes : new ≡ record old { index = new.index; place = place_behind old event }

-- An event inside is seen, or it is damaged.
abbrev pub ScansInside : Bool → Span → TableMaps → ℕ → EventView → UndoScan → UndoScan → Type 0
ScansInside true span maps index event old new = (first : SeenEvent) × SeesInside span maps index event first old new
ScansInside false span maps index event old new = Sees old maps index event None × (new ≡ old)

-- Each of these frames is an event inside, of which this is seen. `state` is what is in force in front of the first one.
abbrev pub AreInside : Span → StreamState → ℕ → FormatDescriptionEvent → List (List ℕ) → List SeenEvent → UndoScan → UndoScan → Type 0
AreInside span state index d [] seen old new = (seen ≡ []) × (new ≡ old)
AreInside span state index d (frame ∷ frames) seen old new =
    (first : SeenEvent) × (others : List SeenEvent) × (mid : UndoScan) × (seen ≡ first ∷ others)
    × SeesInside span (content_behind state frame).table_maps index (event_of d frame) first old mid
    × AreInside span (content_behind state frame) index d frames others mid new

-- What is in force behind the frames of a content.
abbrev pub state_inside : StreamState → List (List ℕ) → StreamState
state_inside state [] = state
state_inside state (frame ∷ frames) = state_inside (content_behind state frame) frames

-- The first frames of a content are these, all of which are seen, and these bytes are left. `d` is the description of the events inside.
pub record AreFirstInside (span : Span) (index : ℕ) (d : FormatDescriptionEvent) (content left : List ℕ) (seen : List SeenEvent) (state : StreamState) (old new : UndoScan) : Type 0 where
  pub frames : List (List ℕ)
  pub whole : content ≡ flat_map (λ (frame : List ℕ). frame) frames ++ left
  pub each : AllByRecursion IsInner frames
  pub behind : state ≡ state_inside (first_state Version4) frames
  pub are : AreInside span (first_state Version4) index d frames seen old new

-- Why a content, or an event of it, isn't there.
abbrev pub lack_of : PayloadError → Lack
lack_of errors.Memory = lacks.Memory
lack_of errors.Limit = lacks.TooLong
lack_of error = lacks.Damaged

-- What is left begins with no event, or with one that is damaged.
abbrev pub IsDamagedInside : StreamState → ℕ → FormatDescriptionEvent → List ℕ → UndoScan → Type 0
IsDamagedInside state index d left scan =
    ((left ≢ []) × HasNoInner left)
    ⊎ ((frame : List ℕ) × (rest : List ℕ) × (left ≡ frame ++ rest) × IsInner frame
    × (((error : Error) × (content_item state frame ≡ Err error)) ⊎ Sees scan (content_behind state frame).table_maps index (event_of d frame) None))

-- What the next event inside makes of the pass, if bytes are left: it is seen, or damaged.
abbrev pub ScansNext : Bool → Span → ℕ → FormatDescriptionEvent → StreamState → StreamState → List ℕ → List ℕ → UndoScan → UndoScan → Type 0
ScansNext true span index d state behind left rest old new =
    (frame : List ℕ) × (first : SeenEvent) × IsInner frame × (left ≡ frame ++ rest) × (behind ≡ content_behind state frame)
    × SeesInside span (content_behind state frame).table_maps index (event_of d frame) first old new
ScansNext false span index d state behind left rest old new = IsDamagedInside state index d left old × (new ≡ old)

-- All events inside are seen, or the first ones.
pub record AreSomeInside (span : Span) (index : ℕ) (d : FormatDescriptionEvent) (content : List ℕ) (old new : UndoScan) : Type 0 where
  pub left : List ℕ
  pub seen : List SeenEvent
  pub state : StreamState
  pub first : AreFirstInside span index d content left seen state old new
  pub damaged : IsDamagedInside state index d left new

pub record AreAllInside (span : Span) (index : ℕ) (d : FormatDescriptionEvent) (content : List ℕ) (seen : List SeenEvent) (old new : UndoScan) : Type 0 where
  pub state : StreamState
  pub first : AreFirstInside span index d content [] seen state old new

abbrev pub ScansEvents : Bool → Span → ℕ → FormatDescriptionEvent → List ℕ → UndoScan → UndoScan → Type 0
ScansEvents true span index d content old new = (seen : List SeenEvent) × AreAllInside span index d content seen old new
ScansEvents false span index d content old new = AreSomeInside span index d content old new

-- ---- the event that has them

-- No transaction goes across the end of a content.
abbrev pub border_of : Span → ℕ → SeenEvent
border_of span index = record {
  index = index;
  place = span.place;
  end = span.end;
  read_at = span.place;
  mark = marks.Border;
  table_id = None;
  change = None;
  refusal = None;
  takes_first = true;
  takes_last = true;
}

abbrev pub span_of : UndoScan → EventView → Span
span_of scan event = record { place = scan.place; end = place_behind scan event }

-- The end of a content is noted, and the pass goes on behind the event that has it.
pub record EndsContent (index : ℕ) (span : Span) (old new : UndoScan) : Type 0 where
  pub notes : NotesIn (border_of span index) old.index new.index
  pub is : new ≡ record old { index = new.index; place = span.end; items = min (index + 1) (2 ^ 64 - 1) }

-- In front of the first event inside.
abbrev pub in_front : UndoScan → UndoScan
in_front scan = record scan { place = 0 }

-- All events inside are seen, and the pass goes on behind the event that has them.
pub record SeesContent (index : ℕ) (event : EventView) (content : List ℕ) (own : List SeenEvent) (old new : UndoScan) : Type 0 where
  pub seen : List SeenEvent
  pub behind : UndoScan
  pub all : AreAllInside (span_of old event) index (inner_fde event.fde) content seen (in_front old) behind
  pub own_are : own ≡ seen ++ border_of (span_of old event) index ∷ []
  pub ends : EndsContent index (span_of old event) (record behind { place = old.place }) new

-- One of them is damaged: the pass ends where the event is that has them.
pub record DamagesContent (index : ℕ) (event : EventView) (content : List ℕ) (old new : UndoScan) : Type 0 where
  pub behind : UndoScan
  pub some : AreSomeInside (span_of old event) index (inner_fde event.fde) content (in_front old) behind
  pub stops : Stops index reasons.Damaged (record behind { place = old.place }) new

abbrev pub ScansContent : ℕ → EventView → List ℕ → UndoScan → UndoScan → Type 0
ScansContent index event content old new =
    ((own : List SeenEvent) × SeesContent index event content own old new) ⊎ DamagesContent index event content old new

-- No row event is undone so far of a transaction that began in front of the event. So each place that is kept of a transaction that ends
-- inside is one in the content.
abbrev pub IsApart : UndoScan → Type 0
IsApart scan = (length (parts_of scan.index).open_changes == 0) ≡ true

-- The event is taken as it is: it has no payload; or a row event of its transaction, outside, is undone; or it has more than 1 GiB inside.
abbrev pub IsTakenWhole : EventView → UndoScan → Type 0
IsTakenWhole event scan =
    (payload_in event ≡ Ok None)
    ⊎ (((length (parts_of scan.index).open_changes == 0) ≡ false)
    ⊎ ((payload : Payload) × (payload_in event ≡ Ok (Some payload)) × (content_of most_bytes payload ≡ Err errors.Limit)))

pub record SeesWhole (maps : TableMaps) (index : ℕ) (event : EventView) (seen : Option SeenEvent) (old new : UndoScan) : Type 0 where
  pub whole : IsTakenWhole event old
  pub sees : Sees old maps index event seen
  pub notes : NotesIf index event seen old new

-- The payload isn't one, or can't be decompressed for another reason than its size.
abbrev pub HasNoContent : EventView → Type 0
HasNoContent event =
    ((error : PayloadError) × (payload_in event ≡ Err error))
    ⊎ ((payload : Payload) × (error : PayloadError) × (payload_in event ≡ Ok (Some payload)) × (lack_of error ≡ lacks.Damaged) × (content_of most_bytes payload ≡ Err error))

-- What the pass makes of a content, or of the lack of one.
pub record ScansInsideOf (index : ℕ) (event : EventView) (old new : UndoScan) : Type 0 where
  pub content : List ℕ
  pub has : HasContent event content
  pub apart : IsApart old
  pub scans : ScansContent index event content old new

abbrev pub ScansAny : TableMaps → ℕ → EventView → UndoScan → UndoScan → Type 0
ScansAny maps index event old new =
    ((seen : Option SeenEvent) × SeesWhole maps index event seen old new)
    ⊎ (ScansInsideOf index event old new ⊎ (HasNoContent event × Stops index reasons.Damaged old new))

-- ---- an item

-- An event is scanned: itself, or the events inside. `maps` are the table maps in force.
pub record ScansEvent (maps : TableMaps) (index : ℕ) (event : EventView) (old new : UndoScan) : Type 0 where
  pub wanted : Bool
  pub follows : FollowsEvent old.choice.transactions old.is_wanted event (Ok wanted)
  pub scans : ScansAny maps index event (record old { is_wanted = wanted }) new

-- What is seen of an event, where the pass goes on: of itself, or of the events inside.
pub record SeesContentOf (index : ℕ) (event : EventView) (own : List SeenEvent) (old new : UndoScan) : Type 0 where
  pub content : List ℕ
  pub has : HasContent event content
  pub apart : IsApart old
  pub sees : SeesContent index event content own old new

abbrev pub SeesAny : TableMaps → ℕ → EventView → List SeenEvent → UndoScan → UndoScan → Type 0
SeesAny maps index event own old new =
    ((first : SeenEvent) × (own ≡ first ∷ []) × SeesWhole maps index event (Some first) old new) ⊎ SeesContentOf index event own old new

pub record SeesEvent (maps : TableMaps) (index : ℕ) (event : EventView) (own : List SeenEvent) (old new : UndoScan) : Type 0 where
  pub wanted : Bool
  pub follows : FollowsEvent old.choice.transactions old.is_wanted event (Ok wanted)
  pub sees : SeesAny maps index event own (record old { is_wanted = wanted }) new

abbrev pub ScansUnless : Bool → TableMaps → ℕ → Result EventView Error → UndoScan → UndoScan → Type 0
ScansUnless true maps index item old new = Closes old new
ScansUnless false maps index (Ok event) old new = ScansEvent maps index event old new
ScansUnless false maps index (Err error) old new = Stops index reasons.Damaged old new

-- An item is looked at, unless the pass has ended, or ends in front of it.
abbrev pub ScansItem : Bool → TableMaps → ℕ → Result EventView Error → UndoScan → UndoScan → Type 0
ScansItem true maps index item old new = new ≡ old
ScansItem false maps index item old new = ScansUnless (is_past_stop old) maps index item old new
