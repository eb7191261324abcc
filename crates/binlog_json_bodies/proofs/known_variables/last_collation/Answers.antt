use Rattle.binlog_json_bodies.specs.ClientSets.{client_collation}
use Rattle.binlog_json_bodies.proofs.KnownVariables.{all_stated, one_more_stated}
use Rattle.binlog_json_bodies.proofs.known_variables.last_collation.Goals as goal

pub variables-preserved : goal.variables-preserved
variables-preserved c =
    one_more_stated c.variables.left.now c.in-Some.behind.now c.in-Some.stated c.variables.collation c.or-collation.result (client_collation c.args.status_vars.now) c.in-Some.ensures
    c.variables.invariant c.or-collation.ensures

pub returns : goal.returns
returns c = all_stated c.variables.left.now c.variables.collation (client_collation c.args.status_vars.now) c.in_default.ensures c.variables.invariant
