-- Where the items of a file begin, as far as it is known.
use Rattle.std.specs.Prelude.{ℕ, ◌+◌, ◌-◌, ◌^◌, length, Option, Some, None, Result, Ok, Err, nat_le, nat_lt, if◌then◌else◌}
use Rattle.binlog_wire.specs.declared.error.Error.{Error}
use Rattle.binlog_event_format.specs.Headers.{header_of}
use Rattle.binlog_event_format.specs.declared.header.BinlogEventHeader.{BinlogEventHeader}
use Rattle.binlog_file.specs.Events.{EventView}

-- Where a header states that its event begins.
abbrev pub stated_start : BinlogEventHeader → Option ℕ
stated_start header = if nat_le header.event_size header.log_pos then Some (header.log_pos - header.event_size) else None

-- Where an event begins, if the position behind the item before it is known, or else what its header states.
abbrev pub start_of : Option ℕ → EventView → Option ℕ
start_of (Some position) event = Some position
start_of None event = stated_start (header_of event.frame)

-- The end of this many bytes from a position; a position has 64 bits.
abbrev pub end_of : Option ℕ → ℕ → Option ℕ
end_of (Some start) size = if nat_lt (start + size) (2 ^ 64) then Some (start + size) else None
end_of None size = None

-- Where an event ends.
abbrev pub behind_event : Option ℕ → EventView → Option ℕ
behind_event position event = end_of (start_of position event) (length event.frame)

-- Where an item ends. How long a damaged event is isn't known.
abbrev pub behind : Option ℕ → Result EventView Error → Option ℕ
behind position (Ok event) = behind_event position event
behind position (Err error) = None
