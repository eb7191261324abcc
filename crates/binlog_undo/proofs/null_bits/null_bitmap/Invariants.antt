use Rattle.std.proofs.Common.{◌≡◌, ◌+◌, ◌-◌, ◌*◌, ◌/◌, ◌++◌, length}
use Rattle.binlog_images.specs.NullBits.{null_bytes, nulls_of}
use Rattle.binlog_undo.proofs.null_bits.null_bitmap.Given as goal

abbrev pub invariant-loop-index : goal.invariant-loop-index
invariant-loop-index l = l.bytes.items ++ null_bytes ((length l.flags + 7) / 8 - l.index) (8 * l.index) l.flags ≡ nulls_of l.flags
