use Rattle.std.proofs.Common.{refl}
use Rattle.binlog_inputs.proofs.Rests.{goes_not, goes_then}
use Rattle.binlog_inputs.proofs.growing.show_items.Goals as goal

pub items-init : goal.items-init
items-init g c = goes_not g.T.Pausing.rests _ _ refl

pub items-preserved : goal.items-preserved
items-preserved g c = goes_then g.T.Pausing.rests _ _ _ c.items.invariant c.show_next.ensures

pub returns-in_err-is_more : goal.returns-in_err-is_more
returns-in_err-is_more g c = goes_then g.T.Pausing.rests _ _ _ c.items.invariant c.show_next.ensures

pub returns-then-not-is_more : goal.returns-then-not-is_more
returns-then-not-is_more g c = goes_then g.T.Pausing.rests _ _ _ c.items.invariant c.show_next.ensures
