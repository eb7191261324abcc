use Rattle.std.proofs.Common.{◌≡◌, ◌+◌, ◌-◌, ◌≤◌}
use Rattle.binlog_rows.specs.Images.{bitmap_of}
use Rattle.binlog_images.specs.Bits.{set_count}
use Rattle.binlog_row_writing.proofs.image.set_count.Given as goal

abbrev pub invariant-loop-index : goal.invariant-loop-index
invariant-loop-index l = (l.count ≤ l.index) × (l.count + set_count (l.bits.len - l.index) l.index (bitmap_of l.bits) ≡ set_count l.bits.len 0 (bitmap_of l.bits))
