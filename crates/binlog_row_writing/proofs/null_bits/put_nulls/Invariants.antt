use Rattle.std.proofs.Common.{◌≡◌, ◌+◌, ◌-◌, ◌*◌, ◌/◌, ◌≤◌, ◌++◌, length, vec_len, vec_capacity}
use Rattle.binlog_images.specs.NullBits.{null_bytes}
use Rattle.binlog_row_writing.specs.NullBits.{null_flags, new_nulls}
use Rattle.binlog_row_writing.proofs.null_bits.put_nulls.Given as goal

abbrev pub invariant-loop-index : goal.invariant-loop-index
invariant-loop-index l = record {
  same : l.out.items ++ null_bytes ((length l.values + 7) / 8 - l.index) (8 * l.index) (null_flags l.values) ≡ l.fn.out.items ++ new_nulls l.values;
  len : vec_len l.out ≡ vec_len l.fn.out + l.index;
  capacity : vec_capacity l.fn.out ≤ vec_capacity l.out;
}
