use Rattle.std.proofs.Common.{take}
use Rattle.std.specs.Prelude.{flat_map}
use Rattle.std.specs.Io.KnownBytes.{Appends}
use Rattle.binlog_summaries.specs.TransactionText.{table_line}
use Rattle.binlog_summaries.proofs.transaction_text.write_tables.Given as goal

abbrev pub invariant-tables : goal.invariant-tables
invariant-tables g l = Appends (g.W.Write.contents l.fn.output) (g.W.Write.contents l.output) (flat_map table_line (take l.index l.tables.entries))
