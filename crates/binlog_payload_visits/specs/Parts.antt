-- The parts of an item of a log: the events inside the compressed transaction that it has.
use Rattle.std.specs.Prelude.{◌≡◌, ℕ, List, [], ◌∷◌, ◌++◌, map, Option, Some, None, Result, Ok, Err}
use Rattle.binlog_wire.specs.declared.error.Error.{Error}
use Rattle.binlog_event_format.specs.declared.format_description.FormatDescriptionEvent.{FormatDescriptionEvent}
use Rattle.binlog_events.specs.Events.{EventView}
use Rattle.binlog_file.specs.Items.{checked_event}
use Rattle.binlog_file.specs.TableMapsInForce.{TableMaps, table_maps_behind}
use Rattle.binlog_payloads.specs.declared.error.PayloadError.{PayloadError}
use Rattle.binlog_payloads.specs.declared.error.PayloadError.TheVariants as errors
use Rattle.binlog_payloads.specs.Contents.{content_of}
use Rattle.binlog_payloads.specs.Events.{payload_in}
use Rattle.binlog_payloads.specs.Fields.{Payload}
use Rattle.binlog_payloads.specs.InnerEvents.{IsContentSplit, inner_event, tail_items}

-- A part: an event inside, or the error in the place of one, or of all.
abbrev pub Part : Type 0
Part = Result EventView PayloadError

-- An event inside, or the error in its place, as it is outside: a ROTATE or a table map whose data isn't one is refused.
abbrev pub part_of : Result EventView Error → Part
part_of (Ok event) = Ok event
part_of (Err error) = Err (errors.Event error)

abbrev pub part_at : FormatDescriptionEvent → List ℕ → Part
part_at fde frame = part_of (checked_event (inner_event fde frame))

-- The parts of a content under the description in force: those of its events, in order, and then the error of its tail, if there is
-- one.
pub record AreContentParts (fde : FormatDescriptionEvent) (content : List ℕ) (parts : List Part) : Type 0 where
  pub frames : List (List ℕ)
  pub tail : List ℕ
  pub split : IsContentSplit content frames tail
  pub all : parts ≡ map (part_at fde) frames ++ tail_items tail

-- A refusal is the only part.
abbrev pub IsRefusal : PayloadError → List Part → Type 0
IsRefusal e parts = parts ≡ Err e ∷ []

-- The parts of what a payload was decompressed to, or why it wasn't.
abbrev pub AreUnpackedParts : FormatDescriptionEvent → Result (List ℕ) PayloadError → List Part → Type 0
AreUnpackedParts fde (Ok content) parts = AreContentParts fde content parts
AreUnpackedParts fde (Err e) parts = IsRefusal e parts

-- The same of what an event's data say, for contents of at most `limit` bytes. An event of another type has no parts.
abbrev pub ArePayloadParts : ℕ → FormatDescriptionEvent → Result (Option Payload) PayloadError → List Part → Type 0
ArePayloadParts limit fde (Ok None) parts = parts ≡ []
ArePayloadParts limit fde (Ok (Some payload)) parts = AreUnpackedParts fde (content_of limit payload) parts
ArePayloadParts limit fde (Err e) parts = IsRefusal e parts

-- The parts of an item. An error has none.
abbrev pub AreParts : ℕ → Result EventView Error → List Part → Type 0
AreParts limit (Ok event) parts = ArePayloadParts limit event.fde (payload_in event) parts
AreParts limit (Err error) parts = parts ≡ []

-- The event has a payload.
pub record HasPayload (event : EventView) : Type 0 where
  pub payload : Payload
  pub is : payload_in event ≡ Ok (Some payload)

-- The item is an event with a payload.
abbrev pub IsCompressed : Result EventView Error → Type 0
IsCompressed (Ok event) = HasPayload event
IsCompressed (Err error) = ⊥

-- The table maps behind a part, as behind an item outside.
abbrev pub maps_behind_part : TableMaps → Part → TableMaps
maps_behind_part maps (Ok event) = table_maps_behind event.fde maps event.frame
maps_behind_part maps (Err e) = maps

-- The table maps behind parts one after another.
abbrev pub maps_after_parts : TableMaps → List Part → TableMaps
maps_after_parts maps [] = maps
maps_after_parts maps (part ∷ parts) = maps_after_parts (maps_behind_part maps part) parts
