use Rattle.binlog_inputs.specs.Rests.{GoesAll}
use Rattle.binlog_inputs.proofs.growing.show_items.Given as goal

abbrev pub invariant-items : goal.invariant-items
invariant-items g l = GoesAll g.T.Pausing.rests l.fn.follower l.follower
