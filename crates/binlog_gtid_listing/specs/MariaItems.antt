-- What an item of a log gives to the listing of MariaDB's GTIDs: data with GTIDs, or the error of a line.
use Rattle.std.specs.Prelude.{◌≡◌, ◌⊎◌, ℕ, ◌==◌, Bool, false, ◌&&◌, ◌||◌, List, [], ◌∷◌, ◌++◌, length, take, Option, Some, None, Result, Ok, Err, is_err, if◌then◌else◌}
use Rattle.binlog_wire.specs.Reading.{Read, ends, invalid, other_type}
use Rattle.binlog_wire.specs.declared.error.Error.{Error}
use Rattle.binlog_wire.specs.declared.error.Error.TheVariants.{EndOfBody, InvalidData, RemainingBytes, WrongEventType, Memory}
use Rattle.binlog_wire.specs.Errors.{is_environment_error}
use Rattle.binlog_event_format.specs.Headers.{header_of}
use Rattle.binlog_event_format.specs.declared.format_description.FormatDescriptionEvent.{FormatDescriptionEvent}
use Rattle.binlog_events.specs.Events.{EventView}
use Rattle.binlog_events.specs.Parts.{data_of}
use Rattle.binlog_mariadb.specs.EventTypes.{maria_event_type_of}
use Rattle.binlog_mariadb.specs.EventBodies.{data_read, ReadsMariaData}
use Rattle.binlog_mariadb.specs.declared.maria_gtid.MariaGtid.{MariaGtid}
use Rattle.binlog_mariadb.specs.declared.event_type.MariaEventType.{MariaEventType}
use Rattle.binlog_mariadb.specs.declared.event_type.UnknownMariaEventType.{UnknownMariaEventType}
use Rattle.binlog_mariadb.specs.declared.event_data.MariaEventData.{MariaEventData}
use Rattle.binlog_maria_gtids.specs.AddedGtids.{gtids_of}
use Rattle.binlog_maria_gtids.specs.LastGtids.{KeepLast}
use Rattle.binlog_event_types.specs.MariaVersions.{is_maria}

-- The types of MariaDB's whose events have GTIDs: GTID_EVENT and GTID_LIST_EVENT.
abbrev pub is_maria_gtid_type : ℕ → Bool
is_maria_gtid_type type = (type == 162) || (type == 163)

-- The event has one of these types, and its description states a server of MariaDB's.
abbrev pub has_maria_gtids : EventView → Bool
has_maria_gtids event = is_maria_gtid_type (header_of event.frame).event_type && is_maria (take 50 event.fde.server_version)

-- The data that a body encodes, if all of its bytes encode it; else the error.
abbrev pub maria_data_in : Read MariaEventData → Result (Option MariaEventData) Error
maria_data_in (Ok (x, [])) = Ok (Some x)
maria_data_in (Ok (x, b ∷ rest)) = Err (RemainingBytes (length (b ∷ rest)))
maria_data_in (Err ends) = Err EndOfBody
maria_data_in (Err (invalid why)) = Err (InvalidData why)
maria_data_in (Err (other_type number)) = Err (WrongEventType number)

-- The same by the type. Another type has none.
abbrev pub maria_data_by : FormatDescriptionEvent → List ℕ → Result MariaEventType UnknownMariaEventType → Result (Option MariaEventData) Error
maria_data_by d s (Err unknown) = Ok None
maria_data_by d s (Ok type) = maria_data_in (data_read d s type)

-- What an event gives that has MariaDB's GTIDs: its data, or the error of its line.
unfoldable pub maria_data_of : EventView → Result (Option MariaEventData) Error
maria_data_of event = maria_data_by event.fde (data_of event.fde.footer event.frame) (maria_event_type_of (header_of event.frame).event_type)

-- The result of reading the data of an event as MariaDB's.
abbrev pub ReadsMaria : EventView → Result (Option MariaEventData) Error → Type 0
ReadsMaria event answer = ReadsMariaData event.fde (header_of event.frame).event_type (data_of event.fde.footer event.frame) answer

-- The GTIDs of the data; an error has none.
abbrev pub gtids_found : (server_id : ℕ) → Result (Option MariaEventData) Error → List MariaGtid
gtids_found server_id (Ok (Some x)) = gtids_of server_id x
gtids_found server_id (Ok None) = []
gtids_found server_id (Err error) = []

-- The GTIDs of an event that has MariaDB's GTIDs.
abbrev pub event_gtids : EventView → List MariaGtid
event_gtids event = gtids_found (header_of event.frame).server_id (maria_data_of event)

-- MariaDB's GTIDs of an item, in order.
abbrev pub item_gtids : Result EventView Error → List MariaGtid
item_gtids (Ok event) = if has_maria_gtids event then event_gtids event else []
item_gtids (Err error) = []

-- MariaDB's GTIDs of these items, in order.
abbrev pub maria_gtids : List (Result EventView Error) → List MariaGtid
maria_gtids [] = []
maria_gtids (item ∷ items) = item_gtids item ++ maria_gtids items

-- The result of adding the GTIDs of an event that has MariaDB's GTIDs. An error leaves the entries unchanged.
abbrev pub AddsMariaGtids : EventView → List MariaGtid → Result (Unit {0}) Error → List MariaGtid → Type 0
AddsMariaGtids event old (Ok x) new = (is_err (maria_data_of event) ≡ false) × KeepLast (old ++ event_gtids event) new
AddsMariaGtids event old (Err error) new =
    (new ≡ old) × ((error ≡ Memory) ⊎ ((maria_data_of event ≡ Err error) × (is_environment_error error ≡ false)))
