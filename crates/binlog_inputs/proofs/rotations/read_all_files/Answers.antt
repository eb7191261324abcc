use Rattle.std.proofs.Common.{refl}
use Rattle.binlog_inputs.proofs.rotations.read_all_files.Goals as goal

pub returns-in-Some-clause-read : goal.returns-in-Some-clause-read
returns-in-Some-clause-read g c = rw ((c.if-goes_on.ensures.0 refl).0, c.in-Some.ensures.cases.0) c.follow_last.ensures.read

pub returns-in_default-clause-read : goal.returns-in_default-clause-read
returns-in_default-clause-read g c = (c.read_files-outcome.new.visitor, rw c.positions-asked.ensures at c.read_files-outcome.ensures, c.into_visitor.ensures)
