use Rattle.std.proofs.Common.{◌≡◌, length}
use Rattle.std.specs.Option.{option_or}
use Rattle.binlog_json_bodies.specs.ClientSets.{client_collation}
use Rattle.binlog_json_bodies.proofs.known_variables.last_collation.Given as goal

-- The client's collation is the one so far if none of the bytes that are left states it.
abbrev pub invariant-variables : goal.invariant-variables
invariant-variables l = option_or (client_collation l.left) l.collation ≡ client_collation l.status_vars

abbrev pub decreases-variables : goal.decreases-variables
decreases-variables l = length l.left
