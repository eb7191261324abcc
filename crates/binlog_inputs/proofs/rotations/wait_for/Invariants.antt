use Rattle.binlog_inputs.specs.Rests.{HasRested}
use Rattle.binlog_inputs.proofs.rotations.wait_for.Given as goal

abbrev pub invariant-looks : goal.invariant-looks
invariant-looks g l = HasRested g.F.Follower.rests l.fn.follower l.follower
