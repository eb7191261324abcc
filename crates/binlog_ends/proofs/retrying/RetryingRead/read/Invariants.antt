use Rattle.std.specs.Io.KnownBytes.{Keeps}
use Rattle.binlog_ends.proofs.retrying.RetryingRead.read.Given as goal

abbrev pub invariant-attempts : goal.invariant-attempts
invariant-attempts g l = Keeps (g.R.Read.remaining l.fn.self.inner) (g.R.Read.remaining l.self.inner)
