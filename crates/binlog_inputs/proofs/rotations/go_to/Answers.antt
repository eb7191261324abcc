use Rattle.binlog_inputs.specs.Rests.{Rests}
use Rattle.binlog_inputs.proofs.Rests.{goes_then}
use Rattle.binlog_inputs.proofs.rotations.go_to.Goals as goal

pub returns-in_err-is_there-clause-rested : goal.returns-in_err-is_there-clause-rested
returns-in_err-is_there-clause-rested g c = goes_then (Rests g.F.Follower.rests) _ _ _ c.wait_if_there.ensures.rested c.wait_for.ensures.rested

pub returns-then-is_there-clause-rested : goal.returns-then-is_there-clause-rested
returns-then-is_there-clause-rested g c = goes_then (Rests g.F.Follower.rests) _ _ _ c.wait_if_there.ensures.rested c.wait_for.ensures.rested

pub returns-else-is_there-clause-rested : goal.returns-else-is_there-clause-rested
returns-else-is_there-clause-rested g c = goes_then (Rests g.F.Follower.rests) _ _ _ c.wait_if_there.ensures.rested c.wait_for.ensures.rested
