use Rattle.std.proofs.Common.{refl}
use Rattle.binlog_inputs.specs.Rests.{Rests}
use Rattle.binlog_inputs.proofs.Rests.{goes_not, goes_once, goes_then}
use Rattle.binlog_inputs.proofs.rotations.wait_for.Goals as goal

pub looks-init : goal.looks-init
looks-init g c = goes_not (Rests g.F.Follower.rests) _ _ refl

pub looks-preserved : goal.looks-preserved
looks-preserved g c = goes_then (Rests g.F.Follower.rests) _ _ _ c.looks.invariant (goes_once (Rests g.F.Follower.rests) _ _ (_, _, c.rest.ensures.rests))

pub returns-in_err-rest-clause-rested : goal.returns-in_err-rest-clause-rested
returns-in_err-rest-clause-rested g c = goes_then (Rests g.F.Follower.rests) _ _ _ c.looks.invariant (goes_once (Rests g.F.Follower.rests) _ _ (_, _, c.rest.ensures.rests))
