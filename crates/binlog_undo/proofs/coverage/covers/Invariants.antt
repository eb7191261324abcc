use Rattle.std.proofs.Common.{◌≡◌, ◌-◌}
use Rattle.binlog_rows.specs.Images.{bitmap_of}
use Rattle.binlog_undo.specs.Coverage.{all_from, is_covered}
use Rattle.binlog_undo.proofs.coverage.covers.Given as goal

abbrev pub invariant-loop-index : goal.invariant-loop-index
invariant-loop-index l =
    all_from (l.after.len - l.index) l.index (is_covered (bitmap_of l.before) (bitmap_of l.after)) ≡ all_from l.after.len 0 (is_covered (bitmap_of l.before) (bitmap_of l.after))
