use Rattle.std.proofs.Common.{◌≡◌, length}
use Rattle.std.specs.List.{list_any}
use Rattle.binlog_undo_log.specs.Looking.{is_old_temporal}
use Rattle.binlog_undo_log.proofs.scan.seeing.has_old_temporal.Given as goal

abbrev pub invariant-types : goal.invariant-types
invariant-types l = list_any is_old_temporal l.left ≡ list_any is_old_temporal l.fn.types

abbrev pub decreases-types : goal.decreases-types
decreases-types l = length l.left
