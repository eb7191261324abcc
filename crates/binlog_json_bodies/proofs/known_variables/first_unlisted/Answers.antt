use Rattle.std.proofs.Common.{refl}
use Rattle.binlog_json_bodies.proofs.KnownVariables.{unlisted_here}
use Rattle.binlog_json_bodies.proofs.known_variables.first_unlisted.Goals as goal

pub returns : goal.returns
returns c = unlisted_here c.args.text.now c.in_ok-number.bytes.now _ c.in_ok-number.number.now c.in_ok-len.len c.in_ok-number.ensures.cases.0 c.in_ok-len.ensures.len refl
