use Rattle.std.proofs.Common.{arith, ap, length}
use Rattle.binlog_file.specs.StatusVars.{variable_of}
use Rattle.binlog_json_bodies.proofs.StatusVars.{variables_fit, one_more_fits}
use Rattle.binlog_json_bodies.proofs.status_vars.write_variables.Goals as goal

pub overflow_add-len-in-variables : goal.overflow_add-len-in-variables
overflow_add-len-in-variables c =
    omega (arith, one_more_fits _ _ _ _ (variable_of c.in-Some.variable) c.variables.invariant.1 c.in-Some.ensures.steps, ap length c.raw.ensures)

pub returns-clause-fits : goal.returns-clause-fits
returns-clause-fits c = omega (arith, c.variables.invariant.1, variables_fit c.args.text.now)
