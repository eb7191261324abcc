use Rattle.binlog_inputs.specs.Rests.{Rests}
use Rattle.binlog_inputs.proofs.Rests.{goes_then}
use Rattle.binlog_inputs.proofs.rotations.follow.Goals as goal

pub returns-clause-rested : goal.returns-clause-rested
returns-clause-rested g c = goes_then (Rests g.F.Follower.rests) _ _ _ c.wait_for_start.ensures.rested c.follow_files.ensures.rested
