use Rattle.std.proofs.Common.{◌≡◌, length}
use Rattle.std.specs.List.{list_any}
use Rattle.binlog_later_changes.specs.KnownRows.{is_old_temporal}
use Rattle.binlog_later_changes.proofs.known_rows.has_old_type.Given as goal

abbrev pub invariant-types : goal.invariant-types
invariant-types l = list_any is_old_temporal l.left ≡ list_any is_old_temporal l.fn.types

abbrev pub decreases-types : goal.decreases-types
decreases-types l = length l.left
