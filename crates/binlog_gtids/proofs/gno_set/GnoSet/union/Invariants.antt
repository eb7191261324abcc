use Rattle.std.proofs.Common.{◌≡◌, ◌||◌, ℕ, drop}
use Rattle.binlog_gtids.specs.GnoSets.{is_held}
use Rattle.binlog_gtids.proofs.gno_set.GnoSet.union.Given as goal

-- the union so far, with the intervals to come, contains the numbers of both sets
abbrev pub invariant-loop-interval : goal.invariant-loop-interval
invariant-loop-interval l = (n : ℕ) → (is_held l.union n || is_held (drop l.interval-index l.interval-items) n) ≡ (is_held l.fn.self n || is_held l.interval-items n)
