use Rattle.std.proofs.Common.{◌≡◌, ◌++◌, drop}
use Rattle.binlog_gtids.proofs.GnoSets.{gaps_in}
use Rattle.binlog_gtids.proofs.gno_set.GnoSet.gaps.Given as goal

-- the gaps so far, with those to come, are all gaps
abbrev pub invariant-loop-interval : goal.invariant-loop-interval
invariant-loop-interval l = l.gaps.items ++ gaps_in l.next (drop l.interval-index l.interval-items) ≡ gaps_in 1 l.interval-items
