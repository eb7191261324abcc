-- What contracts see of an event's data.
use Rattle.std.specs.Prelude.{◌==◌, Option, Some, None, Result, Ok, Err, if◌then◌else◌}
use Rattle.binlog_payloads.specs.declared.error.PayloadError.{PayloadError}
use Rattle.binlog_payloads.specs.declared.event.TransactionPayloadEvent.{TransactionPayloadEvent}
use Rattle.binlog_event_format.specs.Headers.{header_of}
use Rattle.binlog_events.specs.Events.{EventView}
use Rattle.binlog_events.specs.Parts.{data_of}
use Rattle.binlog_payloads.specs.Fields.{Payload, payload_event}

-- What an event says.
abbrev pub payload_of : TransactionPayloadEvent → Payload
payload_of event = record { algorithm = event.algorithm; uncompressed_size = event.uncompressed_size; payload = event.payload.now }

-- What was read.
abbrev pub result_of : Result TransactionPayloadEvent PayloadError → Result Payload PayloadError
result_of (Ok event) = Ok (payload_of event)
result_of (Err e) = Err e

-- The same of an event that may have no payload.
abbrev pub found_in : Result (Option TransactionPayloadEvent) PayloadError → Result (Option Payload) PayloadError
found_in (Ok (Some event)) = Ok (Some (payload_of event))
found_in (Ok None) = Ok None
found_in (Err e) = Err e

-- What was read, of an event that has a payload.
abbrev pub present : Result Payload PayloadError → Result (Option Payload) PayloadError
present (Ok payload) = Ok (Some payload)
present (Err e) = Err e

-- What the data of an event say, if its type is 40, or the first refusal; None for any other type.
abbrev pub payload_in : EventView → Result (Option Payload) PayloadError
payload_in event = if (header_of event.frame).event_type == 40 then present (payload_event (data_of event.fde.footer event.frame)) else Ok None
