use Rattle.std.proofs.Common.{append_assoc}
use Rattle.binlog_json_bodies.proofs.rows.write_columns.Goals as goal

pub returns : goal.returns
returns c = rw (c.in_ok-bytes_member-3.ensures, c.in_ok-write_bits.ensures, c.in_ok-key.ensures.added, c.in_ok-bytes_member-2.ensures, c.in_ok-bytes_member.ensures, c.in_ok-number_member.ensures.added, c.columns_count.ensures, c.columns_type_raw.ensures, c.columns_metadata_raw.ensures, c.null_bitmask.ensures.len, c.null_bitmask.ensures.bytes, c.optional_metadata_raw.ensures) (simp append_assoc)
