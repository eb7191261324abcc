use Rattle.std.proofs.Common.{◌≡◌, ◌<◌, ℕ, true, get_or}
use Rattle.binlog_gtids.specs.GnoSets.{is_within, is_held}
use Rattle.binlog_gtids.proofs.GnoSets.{interval}
use Rattle.binlog_gtids.proofs.gno_set.GnoSet.is_subset.Given as goal

-- the other set contains the numbers of the intervals so far
abbrev pub invariant-loop-interval : goal.invariant-loop-interval
invariant-loop-interval l = (k : ℕ) → k < l.interval-index → (n : ℕ) → is_within (get_or l.interval-items k (interval 0 0)) n ≡ true → is_held l.other n ≡ true
