-- Fields of a GTID with a tag, read one after the other: if a field is repeated, the last one counts.
use Rattle.std.proofs.Common.{None, ℕ, cond, eqb, Option, Some, List, [], ◌∷◌, false, replicate, Result, Ok, Err}
use Rattle.std.specs.Prelude.{unwrap_or}
use Rattle.binlog_wire.specs.declared.error.Invalid.{Invalid}
use Rattle.binlog_wire.specs.declared.error.Invalid.TheVariants as kinds
use Rattle.binlog_gtids.specs.FieldIds.{flags_id, sid_id, gno_id, tag_id, last_committed_id, sequence_number_id, immediate_commit_timestamp_id, original_commit_timestamp_id, transaction_length_id, immediate_server_version_id, original_server_version_id, commit_group_ticket_id}
use Rattle.binlog_gtids.specs.declared.tagged_fields.TaggedFields.{TaggedFields}
use Rattle.binlog_gtids.specs.TaggedValues.{Value, number_in, bytes_in}
use Rattle.binlog_gtids.specs.TaggedFields.{Entry}
use Rattle.binlog_gtids.specs.declared.gtid_event.GtidEvent.{GtidEvent}

-- No field was read.
abbrev pub no_fields : TaggedFields
no_fields = record {
  flags = None;
  sid = None;
  gno = None;
  tag = None;
  last_committed = None;
  sequence_number = None;
  immediate_commit_timestamp = None;
  original_commit_timestamp = None;
  tx_length = None;
  immediate_server_version = None;
  original_server_version = None;
  commit_group_ticket = None;
}

-- The value of the field with this id after another field was read; it was o before.
abbrev pub newer : {X : Type 0} → ℕ → (Value → X) → Entry → Option X → Option X
newer id seen e o = cond (eqb e.0 id) (Some (seen e.1)) o

-- The fields after another field was read.
abbrev pub with_entry : Entry → TaggedFields → TaggedFields
with_entry e f = record {
  flags = newer flags_id number_in e f.flags;
  sid = newer sid_id bytes_in e f.sid;
  gno = newer gno_id number_in e f.gno;
  tag = newer tag_id bytes_in e f.tag;
  last_committed = newer last_committed_id number_in e f.last_committed;
  sequence_number = newer sequence_number_id number_in e f.sequence_number;
  immediate_commit_timestamp = newer immediate_commit_timestamp_id number_in e f.immediate_commit_timestamp;
  original_commit_timestamp = newer original_commit_timestamp_id number_in e f.original_commit_timestamp;
  tx_length = newer transaction_length_id number_in e f.tx_length;
  immediate_server_version = newer immediate_server_version_id number_in e f.immediate_server_version;
  original_server_version = newer original_server_version_id number_in e f.original_server_version;
  commit_group_ticket = newer commit_group_ticket_id number_in e f.commit_group_ticket;
}

-- The fields after these were read, one after the other.
abbrev pub taken : List Entry → TaggedFields → TaggedFields
taken [] f = f
taken (e ∷ es) f = taken es (with_entry e f)

-- ---- the event with the fields that were read

-- The event with these fields and this tag. Absent fields have their defaults.
abbrev pub event_of : TaggedFields → List ℕ → GtidEvent
event_of f tag = record {
  flags = unwrap_or f.flags 0;
  sid = unwrap_or f.sid (replicate 16 0);
  gno = unwrap_or f.gno 0;
  tag = Some tag;
  has_clock = false;
  last_committed = unwrap_or f.last_committed 0;
  sequence_number = unwrap_or f.sequence_number 0;
  immediate_commit_timestamp = unwrap_or f.immediate_commit_timestamp 0;
  original_commit_timestamp = unwrap_or f.original_commit_timestamp (unwrap_or f.immediate_commit_timestamp 0);
  tx_length = unwrap_or f.tx_length 0;
  immediate_server_version = unwrap_or f.immediate_server_version 999999;
  original_server_version = unwrap_or f.original_server_version (unwrap_or f.immediate_server_version 999999);
  commit_group_ticket = unwrap_or f.commit_group_ticket 0;
}

-- The event, if there is a tag.
abbrev pub event_if : Option (List ℕ) → TaggedFields → Result GtidEvent Invalid
event_if (Some tag) f = Ok (event_of f tag)
event_if None f = Err kinds.MissingTag

-- The event with the fields that were read; without a tag they are invalid.
abbrev pub event_known : TaggedFields → Result GtidEvent Invalid
event_known f = event_if f.tag f
