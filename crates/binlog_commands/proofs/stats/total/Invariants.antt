use Rattle.std.proofs.Common.{◌≡◌, take}
use Rattle.binlog_commands.specs.Statistics.{total}
use Rattle.binlog_commands.proofs.stats.total.Given as goal

abbrev pub invariant-loop-count : goal.invariant-loop-count
invariant-loop-count l = l.sum ≡ total (take l.count-index l.counts)
