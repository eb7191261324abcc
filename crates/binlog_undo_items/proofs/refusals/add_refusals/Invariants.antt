use Rattle.std.proofs.Common.{◌≡◌, ◌++◌, length, map}
use Rattle.binlog_undo_items.specs.Refusals.{refusal_of}
use Rattle.binlog_undo_items.proofs.refusals.add_refusals.Given as goal

-- Those so far, and those that are left.
abbrev pub invariant-refusals : goal.invariant-refusals
invariant-refusals l = l.all.items ++ map (refusal_of l.log) l.left ≡ l.fn.all.items ++ map (refusal_of l.log) l.refusals

abbrev pub decreases-refusals : goal.decreases-refusals
decreases-refusals l = length l.left
