-- The bytes of events that are written, one after the other.
use Rattle.std.specs.Prelude.{◌≡◌, ℕ, ◌+◌, ◌%◌, ◌^◌, ◌<◌, Bool, true, false, ◌&&◌, nat_lt, List, ◌++◌, length, codes, replicate, Result, Err, IsOkUnless, if◌then◌else◌}
use Rattle.binlog_wire.specs.Fields.{little_bytes}
use Rattle.binlog_consts.specs.EventTypes.{event_number}
use Rattle.binlog_consts.specs.declared.event_type.EventType.{EventType}
use Rattle.binlog_event_format.specs.Headers.{header}
use Rattle.binlog_event_format.specs.declared.header.BinlogEventHeader.{BinlogEventHeader}
use Rattle.crc32_ieee.specs.Crc32.{crc32}
use Rattle.binlog_undo.specs.declared.events_writer.EventsWriter.{EventsWriter}
use Rattle.binlog_undo.specs.declared.heading.Heading.{Heading}
use Rattle.binlog_undo.specs.declared.write_error.WriteError.{WriteError}
use Rattle.binlog_undo.specs.declared.write_error.WriteError.TheVariants.{TooLong, Memory}

-- ---- one event

-- The number of bytes of an event with a body, which has a checksum or hasn't.
abbrev pub event_size : Bool → List ℕ → ℕ
event_size has_checksum body = 19 + length body + (if has_checksum then 4 else 0)

-- Its header. The log position is the place of the log behind it.
abbrev pub event_header : (size end : ℕ) → Heading → EventType → BinlogEventHeader
event_header size end heading event_type = record {
  timestamp = heading.timestamp;
  event_type = event_number event_type;
  server_id = heading.server_id;
  event_size = size;
  log_pos = end % 2 ^ 32;
  flags = heading.flags;
}

-- The bytes, and behind them their CRC-32.
abbrev pub with_checksum : Bool → List ℕ → List ℕ
with_checksum false s = s
with_checksum true s = s ++ little_bytes 4 (crc32 s)

-- Bytes may be behind the others.
pub record HasMore (old new : List ℕ) : Type 0 where
  pub more : List ℕ
  pub is : new ≡ old ++ more

-- The bytes of an event that begins at this place of the log.
abbrev pub event_bytes : Bool → ℕ → Heading → EventType → List ℕ → List ℕ
event_bytes has_checksum place heading event_type body =
    with_checksum has_checksum (header.written (event_header (event_size has_checksum body) (place + event_size has_checksum body) heading event_type) ++ body)

-- Its header can state how long an event is that begins at this place, and the place behind it is a number of 64 bits.
abbrev pub fits_at : Bool → ℕ → List ℕ → Bool
fits_at has_checksum place body = nat_lt (event_size has_checksum body) (2 ^ 32) && nat_lt (place + event_size has_checksum body) (2 ^ 64)

-- It fits, and its header can state the numbers of its heading.
pub record FitsHeader (has_checksum : Bool) (place : ℕ) (heading : Heading) (body : List ℕ) : Type 0 where
  pub timestamp : heading.timestamp < 2 ^ 32
  pub server_id : heading.server_id < 2 ^ 32
  pub flags : heading.flags < 2 ^ 16
  pub size : fits_at has_checksum place body ≡ true

-- The event is behind the others, and the place is the one behind it.
pub record IsWritten (heading : Heading) (event_type : EventType) (body : List ℕ) (old new : EventsWriter) : Type 0 where
  pub bytes : new.bytes.items ≡ old.bytes.items ++ event_bytes old.has_checksums old.place heading event_type body
  pub place : new.place ≡ old.place + event_size old.has_checksums body
  pub checksums : new.has_checksums ≡ old.has_checksums
  pub fits : FitsHeader old.has_checksums old.place heading body

-- Nothing is written.
pub record IsUnchanged (old new : EventsWriter) : Type 0 where
  pub bytes : new.bytes.items ≡ old.bytes.items
  pub place : new.place ≡ old.place
  pub checksums : new.has_checksums ≡ old.has_checksums

abbrev pub fits : EventsWriter → List ℕ → Bool
fits writer body = fits_at writer.has_checksums writer.place body

-- Where it doesn't fit, that is the answer; and where it does, only memory may be refused.
abbrev pub RefusesAs : Bool → Result (Unit {0}) WriteError → Type 0
RefusesAs true answer = IsOkUnless answer Memory
RefusesAs false answer = answer ≡ Err TooLong

abbrev pub Refuses : EventsWriter → List ℕ → Result (Unit {0}) WriteError → Type 0
Refuses writer body answer = RefusesAs (fits writer body) answer

-- ---- the events of a transaction

-- No thread, no time, no schema, no error and no status variables, and the text.
abbrev pub begin_body : List ℕ
begin_body = replicate 14 0 ++ codes "BEGIN"

abbrev pub xid_body : ℕ → List ℕ
xid_body xid = little_bytes 8 xid
