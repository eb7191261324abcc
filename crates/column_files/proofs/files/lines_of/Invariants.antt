use Rattle.std.proofs.Common.{length}
use Rattle.column_files.specs.Files.{AreLines}
use Rattle.column_files.proofs.files.lines_of.Given as goal

-- The lines so far, and then what is left.
abbrev pub invariant-loop-rest : goal.invariant-loop-rest
invariant-loop-rest l = AreLines l.body l.lines.items l.rest

abbrev pub decreases-loop-rest : goal.decreases-loop-rest
decreases-loop-rest l = length l.rest
