use Rattle.std.proofs.Common.{take}
use Rattle.binlog_summaries.specs.StatsText.{Writes}
use Rattle.binlog_summaries.specs.TableText.{AreTableLines}
use Rattle.binlog_summaries.proofs.table_text.write_lines.Given as goal

abbrev pub invariant-tables : goal.invariant-tables
invariant-tables g l = Writes (AreTableLines (take l.index l.stats.tables.entries)) (g.W.Write.contents l.fn.output) (g.W.Write.contents l.output)
