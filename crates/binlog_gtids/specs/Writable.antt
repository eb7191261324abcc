-- The GTIDs that can't be written, and by which field: the first in the order of the body.
use Rattle.std.proofs.Common.{Bool, cond, Option, None, Some, List, [], ◌∷◌, true, eqb, ltb, ◌≡◌, ◌^◌, ◌<◌, length}
use Rattle.binlog_wire.specs.declared.error.Error.{Error}
use Rattle.binlog_wire.specs.declared.error.Error.TheVariants.{Unwritable}
use Rattle.binlog_wire.specs.declared.error.Field.{Field}
use Rattle.binlog_wire.specs.declared.error.Field.TheVariants as which
use Rattle.binlog_variable_fields.specs.Repeated.{EachFits}
use Rattle.binlog_gtids.specs.FieldIds.{sid_id}
use Rattle.binlog_gtids.specs.declared.gtid_event.GtidEvent.{GtidEvent}
use Rattle.binlog_gtids.specs.TaggedFields.{at_most}

-- The first field whose test fails.
abbrev pub first_failing : List (Bool × Field) → Option Error
first_failing [] = None
first_failing (x ∷ xs) = cond x.0 (first_failing xs) (Some (Unwritable x.1))

-- An immediate timestamp below 2^55; an original timestamp, if it differs, below 2^56; an immediate version below
-- 2^31. Without a clock none of them is written.
abbrev pub unwritable_untagged : GtidEvent → Option Error
unwritable_untagged g =
    cond g.has_clock
    (first_failing (
    (ltb g.immediate_commit_timestamp 36028797018963968, which.ImmediateCommitTimestamp)
    ∷ (cond (eqb g.immediate_commit_timestamp g.original_commit_timestamp) true (ltb g.original_commit_timestamp 72057594037927936), which.OriginalCommitTimestamp)
    ∷ (ltb g.immediate_server_version 2147483648, which.ImmediateServerVersion) ∷ []))
    None

-- The ranges given by the types of the fields.
pub record InRange (g : GtidEvent) : Type 0 where
  pub flags : g.flags < 2 ^ 8
  pub sid : length g.sid ≡ 16
  pub sid_bytes : EachFits (at_most sid_id 255).Fits g.sid
  pub gno : g.gno < 2 ^ 64
  pub last_committed : g.last_committed < 2 ^ 64
  pub sequence_number : g.sequence_number < 2 ^ 64
  pub immediate_commit_timestamp : g.immediate_commit_timestamp < 2 ^ 64
  pub original_commit_timestamp : g.original_commit_timestamp < 2 ^ 64
  pub tx_length : g.tx_length < 2 ^ 64
  pub immediate_server_version : g.immediate_server_version < 2 ^ 32
  pub original_server_version : g.original_server_version < 2 ^ 32
  pub commit_group_ticket : g.commit_group_ticket < 2 ^ 64

-- ---- with a tag

-- The signed numbers are below 2^63.
abbrev pub unwritable_tagged : GtidEvent → Option Error
unwritable_tagged g =
    first_failing ((ltb g.gno 9223372036854775808, which.Gno) ∷ (ltb g.last_committed 9223372036854775808, which.LastCommitted) ∷ (ltb g.sequence_number 9223372036854775808, which.SequenceNumber) ∷ [])
