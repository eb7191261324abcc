use Rattle.std.proofs.Common.{◌≡◌, map, reverse, vec_len}
use Rattle.binlog_later_changes.specs.KeyedRows.{keys_in}
use Rattle.binlog_later_changes.specs.RowsLeft.{Counts, SetsAll, count_of}
use Rattle.binlog_later_changes.proofs.rows_left.RowsLeft.undo_rows.Given as goal

-- The rows that are left complete what all rows make of the counts.
abbrev pub invariant-rows : goal.invariant-rows
invariant-rows l = record {
  counts : (end : Counts) → SetsAll (map keys_in (reverse l.left.items)) (count_of l.self) end → SetsAll (map keys_in l.fn.rows.items) (count_of l.fn.self) end;
  tables : l.self.tables ≡ l.fn.self.tables;
}

abbrev pub decreases-rows : goal.decreases-rows
decreases-rows l = vec_len l.left
