use Rattle.std.proofs.Common.{List, map, reverse, vec_len, refl, ◌∙◌, ap, subst}
use Rattle.std.proofs.lemmas.List.{reverse-reverse}
use Rattle.binlog_later_changes.specs.KeyedRows.{keys_in}
use Rattle.binlog_later_changes.specs.RowsLeft.{SetsAll, count_of}
use Rattle.binlog_later_changes.specs.declared.known_rows.KeyedRow.{KeyedRow}
use Rattle.binlog_later_changes.proofs.RowsLeft.{rows_next, rows_end, last_first, none_last}
use Rattle.binlog_later_changes.proofs.rows_left.RowsLeft.undo_rows.Goals as goal

pub rows-init : goal.rows-init
rows-init c = record {
  counts = λ end all. subst (λ (l : List KeyedRow). SetsAll (map keys_in l) (count_of c.args.self.now) end) (ap reverse c.reverse.ensures.items ∙ reverse-reverse c.args.rows.items) all;
  tables = refl;
}

pub rows-preserved : goal.rows-preserved
rows-preserved c = record {
  counts = λ end more. c.rows.invariant.counts end
      (rows_next (reverse c.rows.left.items) (reverse c.pop.new.self.items) c.in-Some.row (count_of c.rows.self) (count_of c.undo_row.new.self) end
      (last_first c.rows.left.items c.pop.new.self.items c.in-Some.row c.in-Some.ensures.items) c.in_ok-undo_row.ensures.counts more);
  tables = c.undo_row.ensures.tables ∙ c.rows.invariant.tables;
}

pub returns : goal.returns
returns c = record {
  counts = c.rows.invariant.counts (count_of c.rows.self)
      (rows_end (reverse c.rows.left.items) (count_of c.rows.self) (none_last c.rows.left.items c.pop.new.self.items (vec_len c.rows.left) c.in_default.ensures.items c.pop.ensures.rest c.in_default.ensures.cases.0));
  tables = c.rows.invariant.tables;
}
