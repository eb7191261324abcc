-- What an item of a log gives to the listing of its GTIDs: data that adds to them, or the error of a line.
use Rattle.std.specs.Prelude.{◌≡◌, ◌⊎◌, ℕ, ◌==◌, Bool, true, false, ◌||◌, List, [], ◌∷◌, length, Option, Some, None, Result, Ok, Err, is_err, if◌then◌else◌}
use Rattle.binlog_wire.specs.Reading.{Read, ends, invalid, other_type}
use Rattle.binlog_wire.specs.declared.error.Error.{Error}
use Rattle.binlog_wire.specs.declared.error.Error.TheVariants.{EndOfBody, InvalidData, RemainingBytes, WrongEventType, BadGno, Memory}
use Rattle.binlog_wire.specs.Errors.{is_environment_error}
use Rattle.binlog_consts.specs.EventTypes.{event_type_of}
use Rattle.binlog_consts.specs.declared.event_type.EventType.{EventType}
use Rattle.binlog_consts.specs.declared.event_type.UnknownEventType.{UnknownEventType}
use Rattle.binlog_event_format.specs.Headers.{header_of}
use Rattle.binlog_event_format.specs.declared.format_description.FormatDescriptionEvent.{FormatDescriptionEvent}
use Rattle.binlog_event_data.specs.ReadData.{data_read}
use Rattle.binlog_event_data.specs.declared.event_data.EventData.{EventData}
use Rattle.binlog_events.specs.Events.{EventView}
use Rattle.binlog_events.specs.Parts.{data_of}
use Rattle.binlog_gtid_sets.specs.declared.gtid_group.GtidGroup.{GtidGroup}
use Rattle.binlog_gtid_sets.specs.GtidGroups.{Pair, is_tracked}
use Rattle.binlog_gtid_sets.specs.AddedGtids.{is_added, bad_gno_of}
use Rattle.binlog_listing.specs.Listing.{error_line}

-- The types whose events have GTIDs: GTID_EVENT, PREVIOUS_GTIDS_EVENT and GTID_TAGGED_LOG_EVENT.
abbrev pub is_gtid_type : ℕ → Bool
is_gtid_type type = (type == 33) || ((type == 35) || (type == 42))

abbrev pub has_gtids : EventView → Bool
has_gtids event = is_gtid_type (header_of event.frame).event_type

-- Data whose transaction numbers can all be added, or its first one that can't.
abbrev pub unless_bad : EventData → Option ℕ → Result (Option EventData) Error
unless_bad x None = Ok (Some x)
unless_bad x (Some gno) = Err (BadGno gno)

-- The data that a body encodes, if all of its bytes encode it and it can be added; else the error.
abbrev pub data_in : Read EventData → Result (Option EventData) Error
data_in (Ok (x, [])) = unless_bad x (bad_gno_of x)
data_in (Ok (x, b ∷ rest)) = Err (RemainingBytes (length (b ∷ rest)))
data_in (Err ends) = Err EndOfBody
data_in (Err (invalid why)) = Err (InvalidData why)
data_in (Err (other_type number)) = Err (WrongEventType number)

-- The same by the type. An unknown type has none.
abbrev pub data_by : FormatDescriptionEvent → List ℕ → Result EventType UnknownEventType → Result (Option EventData) Error
data_by d s (Err unknown) = Ok None
data_by d s (Ok type) = data_in (data_read d s type)

-- What an event gives: its data, None if its type has no GTIDs, or the error of its line.
unfoldable pub gtids_of : EventView → Result (Option EventData) Error
gtids_of event =
    if has_gtids event then data_by event.fde (data_of event.fde.footer event.frame) (event_type_of (header_of event.frame).event_type) else Ok None

abbrev pub gtids_in : Result EventView Error → Result (Option EventData) Error
gtids_in (Ok event) = gtids_of event
gtids_in (Err error) = Err error

-- The item has a line, which states an error.
abbrev pub is_refused : Result EventView Error → Bool
is_refused item = is_err (gtids_in item)

abbrev pub line_for : ℕ → Result (Option EventData) Error → List ℕ
line_for index (Ok found) = []
line_for index (Err error) = error_line index error

-- The line of an item; empty if it has none.
abbrev pub gtid_line : ℕ → Result EventView Error → List ℕ
gtid_line index item = line_for index (gtids_in item)

abbrev pub adds : Result (Option EventData) Error → Pair → ℕ → Bool
adds (Ok (Some x)) pair n = is_added x pair n
adds (Ok None) pair n = false
adds (Err error) pair n = false

-- The GTID is one of those that these items add.
abbrev pub are_added : List (Result EventView Error) → Pair → ℕ → Bool
are_added [] pair n = false
are_added (item ∷ items) pair n = adds (gtids_in item) pair n || are_added items pair n

-- Adding what the item adds may allocate.
abbrev pub MayGrow : Result EventView Error → Type 0
MayGrow (Ok event) = has_gtids event ≡ true
MayGrow (Err error) = ⊥

-- The set grows by what the item adds.
abbrev pub GrowsBy : Result (Option EventData) Error → List GtidGroup → List GtidGroup → Type 0
GrowsBy found old new = (pair : Pair) (n : ℕ) → is_tracked new pair n ≡ (adds found pair n || is_tracked old pair n)

-- The result of adding what an event adds. An error leaves the set unchanged.
abbrev pub AddsGtids : EventView → List GtidGroup → Result (Unit {0}) Error → List GtidGroup → Type 0
AddsGtids event old (Ok x) new = (is_err (gtids_of event) ≡ false) × GrowsBy (gtids_of event) old new
AddsGtids event old (Err error) new =
    (new ≡ old) × (((error ≡ Memory) × (has_gtids event ≡ true)) ⊎ ((gtids_of event ≡ Err error) × (is_environment_error error ≡ false)))
