use Rattle.std.proofs.Common.{◌≡◌, ◌&&◌, ◌||◌, ℕ, not, drop}
use Rattle.binlog_gtids.specs.GnoSets.{is_held}
use Rattle.binlog_gtids.proofs.gno_set.GnoSet.difference.Given as goal

-- the difference so far, with the missing numbers of the intervals to come, is the whole difference
abbrev pub invariant-loop-interval : goal.invariant-loop-interval
invariant-loop-interval l = (n : ℕ) → (is_held l.difference n || (is_held (drop l.interval-index l.interval-items) n && not (is_held l.other n))) ≡ (is_held l.interval-items n && not (is_held l.other n))
