use Rattle.binlog_undo_items.proofs.TableNames.{pattern_next}
use Rattle.binlog_undo_items.proofs.tables.table_patterns.Goals as goal

pub tables-preserved : goal.tables-preserved
tables-preserved c =
    pattern_next c.args.text.now c.tables.rest.now c.in-Some.behind.now c.in-Some.database.now c.in-Some.table.now c.tables.patterns.items c.push.new.self.items c.in-Ok.pattern
    c.tables.invariant c.in-Some.ensures c.in-Ok.ensures.database c.in-Ok.ensures.table (rw (c.is_err.ensures.negation, c.if-is_err.false) at c.push.ensures.items)
