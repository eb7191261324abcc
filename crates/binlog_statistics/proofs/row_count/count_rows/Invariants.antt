use Rattle.std.proofs.Common.{◌≡◌, ◌-◌, ◌^◌}
use Rattle.std.specs.Prelude.{count_by, is_ok, is_err, min}
use Rattle.std.specs.List.{list_any}
use Rattle.binlog_statistics.proofs.row_count.count_rows.Given as goal

abbrev pub invariant-rows : goal.invariant-rows
invariant-rows l = (l.is_refused ≡ list_any is_err l.yielded) × (l.count ≡ min (count_by is_ok l.yielded) (2 ^ 64 - 1))
