use Rattle.std.proofs.Common.{length, map}
use Rattle.binlog_undo_items.specs.Tables.{AreTablesAt, names_in}
use Rattle.binlog_undo_items.proofs.tables.table_patterns.Given as goal

-- The text is the names of the patterns so far, and the rest.
abbrev pub invariant-tables : goal.invariant-tables
invariant-tables l = AreTablesAt l.text (map names_in l.patterns.items) l.rest

abbrev pub decreases-tables : goal.decreases-tables
decreases-tables l = length l.rest
