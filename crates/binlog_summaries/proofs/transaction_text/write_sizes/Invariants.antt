use Rattle.std.proofs.Common.{take}
use Rattle.std.specs.Io.KnownBytes.{Appends}
use Rattle.binlog_summaries.specs.TransactionText.{size_lines}
use Rattle.binlog_summaries.proofs.transaction_text.write_sizes.Given as goal

abbrev pub invariant-sizes : goal.invariant-sizes
invariant-sizes g l = Appends (g.W.Write.contents l.fn.output) (g.W.Write.contents l.output) (size_lines 0 (take l.class l.sizes.counts))
