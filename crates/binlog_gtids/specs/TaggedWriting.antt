-- A GTID with a tag, written part by part.
use Rattle.std.proofs.Common.{ℕ, ◌+◌, List, ◌++◌, cond, eqb, [], length, ◌*◌}
use Rattle.binlog_variable_fields.specs.Varlen.{varlen_written}
use Rattle.binlog_variable_fields.specs.Repeated.{each_written}
use Rattle.binlog_gtids.specs.FieldIds.{flags_id, sid_id, gno_id, tag_id, last_committed_id, sequence_number_id, immediate_commit_timestamp_id, original_commit_timestamp_id, transaction_length_id, immediate_server_version_id, original_server_version_id, commit_group_ticket_id}
use Rattle.binlog_gtids.specs.declared.gtid_event.GtidEvent.{GtidEvent}

-- ---- fields

-- A field with a number.
abbrev pub number_field : ℕ → ℕ → List ℕ
number_field id n = varlen_written id ++ varlen_written n

-- A number that is written only if it differs from the default.
abbrev pub changed_field : ℕ → ℕ → ℕ → List ℕ
changed_field id usual n = cond (eqb usual n) [] (number_field id n)

-- The field of the source's UUID: one number for each byte.
abbrev pub sid_field : List ℕ → List ℕ
sid_field sid = varlen_written sid_id ++ each_written varlen_written sid

-- The field of the tag, after its length.
abbrev pub tag_field : List ℕ → List ℕ
tag_field tag = varlen_written tag_id ++ (varlen_written (length tag) ++ tag)

-- The fields up to the logical timestamps.
abbrev pub first_fields : GtidEvent → List ℕ → List ℕ
first_fields g tag =
    number_field flags_id g.flags ++ (sid_field g.sid ++ (number_field gno_id (2 * g.gno) ++ (tag_field tag ++ (number_field last_committed_id (2 * g.last_committed) ++ number_field sequence_number_id (2 * g.sequence_number)))))

-- The fields from the commit timestamps on.
abbrev pub last_fields : GtidEvent → List ℕ
last_fields g =
    number_field immediate_commit_timestamp_id g.immediate_commit_timestamp
    ++ (changed_field original_commit_timestamp_id g.immediate_commit_timestamp g.original_commit_timestamp
    ++ (number_field transaction_length_id g.tx_length
    ++ (number_field immediate_server_version_id g.immediate_server_version
    ++ (changed_field original_server_version_id g.immediate_server_version g.original_server_version ++ changed_field commit_group_ticket_id 0 g.commit_group_ticket))))
