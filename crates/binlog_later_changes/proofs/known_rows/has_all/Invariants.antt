use Rattle.std.proofs.Common.{◌≡◌, ◌-◌}
use Rattle.binlog_rows.specs.Images.{bitmap_of}
use Rattle.binlog_images.specs.Bits.{is_set}
use Rattle.binlog_undo.specs.Coverage.{all_from}
use Rattle.binlog_later_changes.proofs.known_rows.has_all.Given as goal

abbrev pub invariant-loop-index : goal.invariant-loop-index
invariant-loop-index l = all_from (l.bits.len - l.index) l.index (is_set (bitmap_of l.bits)) ≡ all_from l.bits.len 0 (is_set (bitmap_of l.bits))
