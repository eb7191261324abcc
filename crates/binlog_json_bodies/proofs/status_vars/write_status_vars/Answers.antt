use Rattle.std.proofs.Common.{◌∙◌}
use Rattle.binlog_json_bodies.proofs.KnownVariables.{found_in_all}
use Rattle.binlog_json_bodies.proofs.status_vars.write_status_vars.Goals as goal

pub returns-clause-client : goal.returns-clause-client
returns-clause-client c =
    let found = c.in_ok-found.found in
    c.or.ensures ∙ found_in_all c.args.text.now found.len c.last_collation.result found.collation c.in_ok-found.ensures.len c.in_ok-found.ensures.client c.last_collation.ensures
