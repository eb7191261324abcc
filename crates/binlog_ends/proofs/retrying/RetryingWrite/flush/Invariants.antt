use Rattle.std.specs.Io.KnownBytes.{Keeps}
use Rattle.binlog_ends.proofs.retrying.RetryingWrite.flush.Given as goal

abbrev pub invariant-attempts : goal.invariant-attempts
invariant-attempts g l = Keeps (g.W.Write.contents l.fn.self.inner) (g.W.Write.contents l.self.inner)
