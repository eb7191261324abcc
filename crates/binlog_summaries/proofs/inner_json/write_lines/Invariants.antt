use Rattle.std.specs.Io.KnownBytes.{Appends}
use Rattle.binlog_summaries.specs.InnerTypes.{lines_below}
use Rattle.binlog_summaries.proofs.inner_json.write_lines.Given as goal

abbrev pub invariant-loop-number : goal.invariant-loop-number
invariant-loop-number g l = Appends (g.W.Write.contents l.fn.output) (g.W.Write.contents l.output) (lines_below l.number l.counts)
