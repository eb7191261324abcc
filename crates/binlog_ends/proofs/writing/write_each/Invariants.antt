use Rattle.binlog_ends.proofs.Written.{IsWritten}
use Rattle.binlog_ends.proofs.writing.write_each.Given as goal

abbrev pub invariant-writes : goal.invariant-writes
invariant-writes g l = IsWritten (g.W.Write.contents l.fn.output) (g.W.Write.contents l.output) l.bytes l.rest
