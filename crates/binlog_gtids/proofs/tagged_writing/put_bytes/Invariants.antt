use Rattle.std.proofs.Common.{◌≡◌, ◌++◌, ◌+◌, ◌≤◌, length, drop, vec_len, vec_capacity}
use Rattle.binlog_variable_fields.specs.Repeated.{each_written}
use Rattle.binlog_variable_fields.specs.Varlen.{varlen_written}
use Rattle.binlog_gtids.proofs.tagged_writing.put_bytes.Given as goal

abbrev pub invariant-loop-byte : goal.invariant-loop-byte
invariant-loop-byte l =
    let written = each_written varlen_written in
    record {
      items : l.buf.items ++ written (drop l.byte-index l.bytes) ≡ l.fn.buf.items ++ written l.bytes;
      len : vec_len l.buf + length (written (drop l.byte-index l.bytes)) ≡ vec_len l.fn.buf + length (written l.bytes);
      capacity : vec_capacity l.fn.buf ≤ vec_capacity l.buf;
    }
