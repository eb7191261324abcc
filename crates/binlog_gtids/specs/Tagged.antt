-- The body of a GTID with a tag: a byte 2; the payload size, which counts the whole body with itself; the last
-- non-ignorable field id; the fields.
-- Source: MySQL's source documentation, `Gtid_event`, and the documentation of its serialization library.
use Rattle.std.proofs.Common.{ℕ, List, eqb, Option, None, Some, cond, [], ◌∷◌, false, replicate, Result, Ok, Err, inl, inr, Bool, length, ◌+◌, ◌<◌}
use Rattle.binlog_wire.specs.Formats.{last, Format, anywhere, allowed, ◌⨾◌}
use Rattle.binlog_wire.specs.declared.error.Invalid.{Invalid}
use Rattle.binlog_wire.specs.declared.error.Invalid.TheVariants as kinds
use Rattle.binlog_variable_fields.specs.Formats.{until, varlen, within}
use Rattle.binlog_variable_fields.specs.Repeated.{each_written, EachFits}
use Rattle.binlog_variable_fields.specs.Sized.{least_size}
use Rattle.binlog_gtids.specs.FieldIds.{flags_id, sid_id, gno_id, tag_id, last_committed_id, sequence_number_id, immediate_commit_timestamp_id, original_commit_timestamp_id, transaction_length_id, immediate_server_version_id, original_server_version_id, commit_group_ticket_id}
use Rattle.binlog_gtids.specs.TaggedFields.{Entry, entry}
use Rattle.binlog_gtids.specs.TaggedValues.{IsTail, is_tail, Value, number_in, bytes_in}
use Rattle.binlog_gtids.specs.Laws.TaggedFields.{tail_is_end}
use Rattle.binlog_gtids.specs.declared.gtid_event.GtidEvent.{GtidEvent}

-- The fields of a body with this last non-ignorable field id.
abbrev pub fields : ℕ → Format last (List Entry)
fields id = until entry (IsTail id) (is_tail id) (tail_is_end id)

-- Serialization version, payload size, last non-ignorable field id.
abbrev pub Head : Type 0
Head = ℕ × (ℕ × ℕ)

-- The payload size that a head states: the bytes of the whole body.
abbrev pub payload_size : Head → ℕ
payload_size h = h.1.0

-- The last non-ignorable field id that a head states.
abbrev pub last_id : Head → ℕ
last_id h = h.1.1

-- The format of the head; the version must be 2.
abbrev pub head : Format anywhere Head
head = allowed 1 (λ n. eqb n 2) kinds.SerializationVersion ⨾ varlen ⨾ varlen

-- The format of the head and the fields, which end where the payload size says.
abbrev pub tagged_fields : Format last (Head × List Entry)
tagged_fields = within head payload_size kinds.PayloadSize (λ h. fields (last_id h)) (λ h s v r spelled. spelled.3)

-- ---- the values of the fields

-- The last value of a field.
abbrev pub or_else : Option Value → Option Value → Option Value
or_else (Some v) other = Some v
or_else None other = other

-- The last value of the field with this id, if there is one.
abbrev pub last_of : ℕ → List Entry → Option Value
last_of id [] = None
last_of id (e ∷ es) = or_else (last_of id es) (cond (eqb e.0 id) (Some e.1) None)

-- A field's number, or the default if the field is absent.
abbrev pub number_or : ℕ → Option Value → ℕ
number_or default (Some v) = number_in v
number_or default None = default

-- A field's bytes, or the default if the field is absent.
abbrev pub bytes_or : List ℕ → Option Value → List ℕ
bytes_or default (Some v) = bytes_in v
bytes_or default None = default

-- The event with this tag and these fields. Absent fields have their defaults.
abbrev pub gtid_with : List ℕ → List Entry → GtidEvent
gtid_with tag es = record {
  flags = number_or 0 (last_of flags_id es);
  sid = bytes_or (replicate 16 0) (last_of sid_id es);
  gno = number_or 0 (last_of gno_id es);
  tag = Some tag;
  has_clock = false;
  last_committed = number_or 0 (last_of last_committed_id es);
  sequence_number = number_or 0 (last_of sequence_number_id es);
  immediate_commit_timestamp = number_or 0 (last_of immediate_commit_timestamp_id es);
  original_commit_timestamp = number_or (number_or 0 (last_of immediate_commit_timestamp_id es)) (last_of original_commit_timestamp_id es);
  tx_length = number_or 0 (last_of transaction_length_id es);
  immediate_server_version = number_or 999999 (last_of immediate_server_version_id es);
  original_server_version = number_or (number_or 999999 (last_of immediate_server_version_id es)) (last_of original_server_version_id es);
  commit_group_ticket = number_or 0 (last_of commit_group_ticket_id es);
}

-- The event with the tag of its field; without that field the body is invalid.
abbrev pub with_tag : Option Value → List Entry → Result GtidEvent Invalid
with_tag (Some v) es = Ok (gtid_with (bytes_in v) es)
with_tag None es = Err kinds.MissingTag

-- The event that a head and fields encode.
abbrev pub tagged_of : Head × List Entry → Result GtidEvent Invalid
tagged_of x = with_tag (last_of tag_id x.1) x.1

-- ---- which fields are written

-- The bytes of the tag; empty for none.
abbrev pub tag_in : Option (List ℕ) → List ℕ
tag_in (Some t) = t
tag_in None = []

-- The fields in ascending order of their ids; an original timestamp or version only if it differs, a ticket only if it
-- isn't 0.
abbrev pub entries_by : Bool → Bool → Bool → GtidEvent → List Entry
entries_by same_time same_version no_ticket g =
    let ticket : List Entry = cond no_ticket [] ((commit_group_ticket_id, inl g.commit_group_ticket) ∷ []) in
    let versions : List Entry = (immediate_server_version_id, inl g.immediate_server_version) ∷ cond same_version ticket ((original_server_version_id, inl g.original_server_version) ∷ ticket) in
    let length : List Entry = (transaction_length_id, inl g.tx_length) ∷ versions in
    (flags_id, inl g.flags) ∷ (sid_id, inr g.sid) ∷ (gno_id, inl g.gno) ∷ (tag_id, inr (tag_in g.tag)) ∷ (last_committed_id, inl g.last_committed) ∷ (sequence_number_id, inl g.sequence_number)
    ∷ (immediate_commit_timestamp_id, inl g.immediate_commit_timestamp) ∷ cond same_time length ((original_commit_timestamp_id, inl g.original_commit_timestamp) ∷ length)

-- The fields that are written of an event.
abbrev pub entries : GtidEvent → List Entry
entries g = entries_by (eqb g.immediate_commit_timestamp g.original_commit_timestamp) (eqb g.immediate_server_version g.original_server_version) (eqb 0 g.commit_group_ticket) g

-- The encoding of these fields.
abbrev pub entries_written : GtidEvent → List ℕ
entries_written g = each_written entry.written (entries g)

-- Two other bytes come first: the version and the last non-ignorable field id.
abbrev pub written_size : GtidEvent → ℕ
written_size g = least_size (2 + length (entries_written g))

-- The head and the fields that are written of an event.
abbrev pub tagged_code : GtidEvent → Head × List Entry
tagged_code g = ((2, (written_size g, 0)), entries g)

-- The event with these original timestamp, original version and ticket.
abbrev pub tagged_with : GtidEvent → ℕ → ℕ → ℕ → GtidEvent
tagged_with g original_commit_timestamp original_server_version ticket = record {
  flags = g.flags;
  sid = g.sid;
  gno = g.gno;
  tag = Some (tag_in g.tag);
  has_clock = false;
  last_committed = g.last_committed;
  sequence_number = g.sequence_number;
  immediate_commit_timestamp = g.immediate_commit_timestamp;
  original_commit_timestamp = original_commit_timestamp;
  tx_length = g.tx_length;
  immediate_server_version = g.immediate_server_version;
  original_server_version = original_server_version;
  commit_group_ticket = ticket;
}

-- What writing keeps of an event: everything except the clock code.
abbrev pub tagged_normal : GtidEvent → GtidEvent
tagged_normal g = tagged_with g g.original_commit_timestamp g.original_server_version g.commit_group_ticket

-- Each field fits, and the body is so short that its size has at most two bytes.
abbrev pub FitsTagged : GtidEvent → Type 0
FitsTagged g = EachFits entry.Fits (entries g) × (length (entries_written g) + 4 < 16384)
