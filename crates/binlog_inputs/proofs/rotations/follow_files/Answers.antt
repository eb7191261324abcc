use Rattle.std.proofs.Common.{refl}
use Rattle.binlog_inputs.specs.Rests.{Rests}
use Rattle.binlog_inputs.proofs.Rests.{goes_not, goes_then}
use Rattle.binlog_inputs.proofs.rotations.follow_files.Goals as goal

pub files-init : goal.files-init
files-init g c = goes_not (Rests g.F.Follower.rests) _ _ refl

pub returns-in-Err-clause-rested : goal.returns-in-Err-clause-rested
returns-in-Err-clause-rested g c = goes_then (Rests g.F.Follower.rests) _ _ _ c.files.invariant c.follow_from-read.ensures.rested

pub returns-in_default-clause-rested : goal.returns-in_default-clause-rested
returns-in_default-clause-rested g c = goes_then (Rests g.F.Follower.rests) _ _ _ c.files.invariant c.follow_from-read.ensures.rested

pub returns-in-Ok-go_to-clause-rested : goal.returns-in-Ok-go_to-clause-rested
returns-in-Ok-go_to-clause-rested g c =
    goes_then (Rests g.F.Follower.rests) _ _ _ c.files.invariant (goes_then (Rests g.F.Follower.rests) _ _ _ c.follow_from-read.ensures.rested c.go_to.ensures.rested)

pub returns-in-Err-go_to-clause-rested : goal.returns-in-Err-go_to-clause-rested
returns-in-Err-go_to-clause-rested g c =
    goes_then (Rests g.F.Follower.rests) _ _ _ c.files.invariant (goes_then (Rests g.F.Follower.rests) _ _ _ c.follow_from-read.ensures.rested c.go_to.ensures.rested)

pub files-preserved : goal.files-preserved
files-preserved g c =
    goes_then (Rests g.F.Follower.rests) _ _ _ c.files.invariant (goes_then (Rests g.F.Follower.rests) _ _ _ c.follow_from-read.ensures.rested c.go_to.ensures.rested)
