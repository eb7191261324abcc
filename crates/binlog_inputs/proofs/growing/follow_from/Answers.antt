use Rattle.binlog_inputs.specs.Rests.{Rests}
use Rattle.binlog_inputs.proofs.Rests.{goes_not, goes_then}
use Rattle.binlog_inputs.proofs.growing.follow_from.Goals as goal

pub returns-clause-rested : goal.returns-clause-rested
returns-clause-rested g c = goes_then (Rests g.F.Follower.rests) _ _ _ (goes_not (Rests g.F.Follower.rests) _ _ c.begin_file.ensures) c.follow_file-read.ensures.rested
