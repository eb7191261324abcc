use Rattle.std.proofs.Common.{map}
use Rattle.change_statistics.specs.Names.{name_of}
use Rattle.binlog_later_changes.specs.KeyedRows.{keys_in}
use Rattle.binlog_later_changes.proofs.RowsLeft.{all_undone, unknown_undone}
use Rattle.binlog_later_changes.proofs.rows_left.RowsLeft.undo.Goals as goal

pub returns-in_ok-undo_rows-in-Some : goal.returns-in_ok-undo_rows-in-Some
returns-in_ok-undo_rows-in-Some c =
    rw c.in-Some.is (all_undone c.put_table.result (map keys_in c.in-Some.rows.items) (name_of c.args.name.now) c.args.self.now c.undo_rows.new.self c.put_table.new.self
    c.in_ok-undo_rows-in-Some.ensures.counts c.undo_rows.ensures.tables c.put_table.ensures.counts c.put_table.ensures.tables)

pub returns-in-None : goal.returns-in-None
returns-in-None c =
    rw c.in-None.is (unknown_undone c.put_table-in-None.result (name_of c.args.name.now) c.args.self.now c.put_table-in-None.new.self c.put_table-in-None.ensures.counts
    c.put_table-in-None.ensures.tables)
