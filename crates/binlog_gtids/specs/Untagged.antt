-- GTIDs without a tag, types 33 and 34. In one unit: flags (1), source UUID (16), GNO (8). If the next byte is the
-- clock code 2: that byte, and the clock. Nothing else may follow.
-- Source: MySQL's source documentation, `Gtid_event` and `Gtid_log_event`.
use Rattle.std.proofs.Common.{ℕ, List, refl, Option, Bool, true, false, None, Some, Result, Ok, ◌≡◌, cond, eqb}
use Rattle.binlog_wire.specs.Formats.{Format, anywhere, number, block, unit, ◌⨾◌, last, if_left}
use Rattle.binlog_wire.specs.declared.error.Invalid.{Invalid}
use Rattle.binlog_variable_fields.specs.Formats.{announced, lenenc, behind}
use Rattle.binlog_gtids.specs.declared.gtid_event.GtidEvent.{GtidEvent}

-- Flags, source UUID, GNO.
abbrev pub Head : Type 0
Head = ℕ × (List ℕ × ℕ)

-- The head of an event.
abbrev pub head_of : GtidEvent → Head
head_of g = (g.flags, (g.sid, g.gno))

-- The format of the head, in one unit.
abbrev pub head : Format anywhere Head
head = unit (number 1 ⨾ block 16 ⨾ number 8)

-- The commit timestamps on the immediate and the original server; the second follows if bit 55 of the first is set.
abbrev pub times : Format anywhere (ℕ × ℕ)
times = announced 7 36028797018963968 refl

-- The versions of these servers; the second follows if bit 31 of the first is set.
abbrev pub versions : Format last (ℕ × ℕ)
versions = announced 4 2147483648 refl

-- last_committed and sequence_number; commit timestamps; transaction length; server versions.
abbrev pub Clock : Type 0
Clock = (ℕ × ℕ) × ((ℕ × ℕ) × (ℕ × (ℕ × ℕ)))

-- Its logical timestamps: last_committed and sequence_number.
abbrev pub logical_in : Clock → ℕ × ℕ
logical_in c = c.0

-- Its commit timestamps.
abbrev pub times_in : Clock → ℕ × ℕ
times_in c = c.1.0

-- Its transaction length.
abbrev pub length_in : Clock → ℕ
length_in c = c.1.1.0

-- Its server versions.
abbrev pub versions_in : Clock → ℕ × ℕ
versions_in c = c.1.1.1

-- Of a value on the immediate and the original server, the one on the immediate server.
abbrev pub immediate : ℕ × ℕ → ℕ
immediate x = x.0

-- The one on the original server.
abbrev pub original : ℕ × ℕ → ℕ
original x = x.1

-- The logical timestamps, in one unit; then three parts, each present exactly if its least number of bytes is left: 7
-- for the commit timestamps, 1 for the transaction length, 4 for the server versions.
abbrev pub times_if_left : Format anywhere (ℕ × ℕ)
times_if_left = if_left (0, 0) times refl

-- The transaction length; 0 if no byte is left.
abbrev pub length_if_left : Format anywhere ℕ
length_if_left = if_left 0 lenenc refl

-- The server versions; undefined if fewer than 4 bytes are left.
abbrev pub versions_if_left : Format last (ℕ × ℕ)
versions_if_left = if_left (999999, 999999) versions refl

-- The logical timestamps: last_committed and sequence_number.
abbrev pub logical_times : Format anywhere (ℕ × ℕ)
logical_times = unit (number 8 ⨾ number 8)

-- The format of the fields after the clock code.
abbrev pub clock : Format last Clock
clock = logical_times ⨾ times_if_left ⨾ length_if_left ⨾ versions_if_left

-- The head and the optional clock.
abbrev pub untagged_fields : Format last (Head × Option Clock)
untagged_fields = head ⨾ behind 2 clock

-- The fields of an event after the clock code.
abbrev pub clock_of : GtidEvent → Clock
clock_of g = (
  (g.last_committed, g.sequence_number),
  ((g.immediate_commit_timestamp, g.original_commit_timestamp), (g.tx_length, (g.immediate_server_version, g.original_server_version))),
)

-- The clock, if b is true.
abbrev pub clock_if : Bool → Clock → Option Clock
clock_if true c = Some c
clock_if false c = None

-- The head and the optional clock of an event.
abbrev pub fields_of : GtidEvent → Head × Option Clock
fields_of g = (head_of g, clock_if g.has_clock (clock_of g))

-- The event with these fields, without a tag and a ticket. Without a clock both versions are undefined, and all other
-- fields are 0.
abbrev pub untagged_with : Head → Option Clock → GtidEvent
untagged_with (flags, (sid, gno)) (Some c) = record {
  flags = flags;
  sid = sid;
  gno = gno;
  tag = None;
  has_clock = true;
  last_committed = (logical_in c).0;
  sequence_number = (logical_in c).1;
  immediate_commit_timestamp = immediate (times_in c);
  original_commit_timestamp = original (times_in c);
  tx_length = length_in c;
  immediate_server_version = immediate (versions_in c);
  original_server_version = original (versions_in c);
  commit_group_ticket = 0;
}
untagged_with (flags, (sid, gno)) None = record {
  flags = flags;
  sid = sid;
  gno = gno;
  tag = None;
  has_clock = false;
  last_committed = 0;
  sequence_number = 0;
  immediate_commit_timestamp = 0;
  original_commit_timestamp = 0;
  tx_length = 0;
  immediate_server_version = 999999;
  original_server_version = 999999;
  commit_group_ticket = 0;
}

-- The event with this head and no clock.
abbrev pub without_clock : Head → GtidEvent
without_clock h = untagged_with h None

-- The head of an event, with this clock.
abbrev pub with_clock : GtidEvent → Clock → GtidEvent
with_clock g c = untagged_with (head_of g) (Some c)

-- The event that a head and an optional clock encode.
abbrev pub untagged_of : Head × Option Clock → Result GtidEvent Invalid
untagged_of x = Ok (untagged_with x.0 x.1)

-- What writing keeps of a GTID.
abbrev pub untagged_normal : GtidEvent → GtidEvent
untagged_normal g = untagged_with (head_of g) (clock_if g.has_clock (clock_of g))

-- The fields fit their formats, and there is no tag.
abbrev pub FitsUntagged : GtidEvent → Type 0
FitsUntagged g = untagged_fields.Fits (fields_of g) × (g.tag ≡ None)

-- The raw types of GTIDs without a tag.
abbrev pub is_untagged_type : ℕ → Bool
is_untagged_type raw = cond (eqb raw 33) true (eqb raw 34)
