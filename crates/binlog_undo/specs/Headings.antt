-- What the headers of written events take from others.
use Rattle.std.specs.Prelude.{bit_and, bit_or}
use Rattle.binlog_event_format.specs.declared.header.BinlogEventHeader.{BinlogEventHeader}
use Rattle.binlog_undo.specs.declared.heading.Heading.{Heading}

-- The BEGIN of a transaction whose last event has this header: the flag 0x8000 stays, and the flag 8 is set.
abbrev pub begin_heading : BinlogEventHeader → Heading
begin_heading last = record { timestamp = last.timestamp; server_id = last.server_id; flags = bit_or (bit_and last.flags 0x8000) 8 }

-- The XID that ends it.
abbrev pub commit_heading : BinlogEventHeader → Heading
commit_heading last = record { timestamp = last.timestamp; server_id = last.server_id; flags = bit_and last.flags 0x8000 }

-- An event that is made of one with this header: the flags 0x61 are cleared.
abbrev pub source_heading : BinlogEventHeader → Heading
source_heading source = record { timestamp = source.timestamp; server_id = source.server_id; flags = bit_and source.flags 0xff9e }
