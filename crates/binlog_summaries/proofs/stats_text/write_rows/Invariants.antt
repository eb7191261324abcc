use Rattle.std.specs.Io.KnownBytes.{Appends}
use Rattle.binlog_summaries.specs.StatsText.{rows_below}
use Rattle.binlog_summaries.proofs.stats_text.write_rows.Given as goal

abbrev pub invariant-loop-number : goal.invariant-loop-number
invariant-loop-number g l = Appends (g.W.Write.contents l.fn.output) (g.W.Write.contents l.output) (rows_below l.number l.stats l.all)
