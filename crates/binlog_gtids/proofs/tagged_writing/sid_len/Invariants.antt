use Rattle.std.proofs.Common.{◌≡◌, ◌+◌, ◌*◌, ◌≤◌, length, drop}
use Rattle.binlog_variable_fields.specs.Repeated.{each_written}
use Rattle.binlog_variable_fields.specs.Varlen.{varlen_written}
use Rattle.binlog_gtids.specs.TaggedWriting.{sid_field}
use Rattle.binlog_gtids.proofs.tagged_writing.sid_len.Given as goal

abbrev pub invariant-loop-byte : goal.invariant-loop-byte
invariant-loop-byte l = record {
  count : l.len + length (each_written varlen_written (drop l.byte-index l.sid)) ≡ length (sid_field l.sid);
  small : l.len ≤ 9 + 9 * l.byte-index;
}
