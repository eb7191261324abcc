use Rattle.std.proofs.Common.{◌≡◌, length, map}
use Rattle.std.specs.List.{list_any}
use Rattle.binlog_later_changes.specs.KeyedRows.{keys_in}
use Rattle.binlog_later_changes.specs.RowsLeft.{removes_key, count_of}
use Rattle.binlog_later_changes.proofs.rows_left.RowsLeft.are_apart.Given as goal

abbrev pub invariant-rows : goal.invariant-rows
invariant-rows l = list_any (removes_key (count_of l.self)) (map keys_in l.left) ≡ list_any (removes_key (count_of l.self)) (map keys_in l.fn.rows)

abbrev pub decreases-rows : goal.decreases-rows
decreases-rows l = length l.left
