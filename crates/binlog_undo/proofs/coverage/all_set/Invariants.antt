use Rattle.std.proofs.Common.{◌≡◌, length}
use Rattle.binlog_rows.specs.Images.{bitmap_of}
use Rattle.binlog_undo.specs.Coverage.{all_set}
use Rattle.binlog_undo.proofs.coverage.all_set.Given as goal

abbrev pub invariant-columns : goal.invariant-columns
invariant-columns l = all_set (bitmap_of l.bits) l.left ≡ all_set (bitmap_of l.bits) l.key

abbrev pub decreases-columns : goal.decreases-columns
decreases-columns l = length l.left
