use Rattle.binlog_inputs.specs.Rests.{HasRested}
use Rattle.binlog_inputs.proofs.rotations.follow_files.Given as goal

abbrev pub invariant-files : goal.invariant-files
invariant-files g l = HasRested g.F.Follower.rests l.fn.follower l.follower
