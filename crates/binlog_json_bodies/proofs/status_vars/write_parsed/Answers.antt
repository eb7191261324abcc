use Rattle.binlog_file.specs.StatusVars.{variable_of}
use Rattle.binlog_json_bodies.proofs.status_vars.write_parsed.Goals as goal

pub returns-in_ok-write_entry-in-Ok-clause-client : goal.returns-in_ok-write_entry-in-Ok-clause-client
returns-in_ok-write_entry-in-Ok-clause-client c = c.client_collation.ensures (variable_of c.args.variable.now) c.in-Ok.ensures.value
