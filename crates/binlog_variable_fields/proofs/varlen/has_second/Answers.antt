use Rattle.std.proofs.Common.{arith}
use Rattle.std.proofs.lemmas.Bool.{eqb-true}
use Rattle.binlog_variable_fields.specs.Laws.Varlen.{ones_are}
use Rattle.binlog_variable_fields.proofs.varlen.has_second.Goals as goal

pub returns : goal.returns
returns c = λ h. ones_are c.args.first 1 (omega (arith, c.ranges.first.fits)) (omega arith) (eqb-true _ _ h)
