use Rattle.binlog_declared_columns.proofs.BothFacts.{AreSoFar}
use Rattle.binlog_declared_columns.proofs.completion.all_of_both.Given as goal

-- The facts so far, with those of what is left.
abbrev pub invariant-loop-stated : goal.invariant-loop-stated
invariant-loop-stated l = AreSoFar l.declared l.yielded l.both.items l.rest
