use Rattle.std.proofs.Common.{◌≡◌, take}
use Rattle.change_statistics.specs.TypeCounting.{total}
use Rattle.change_statistics.proofs.type_counts.total.Given as goal

abbrev pub invariant-loop-count : goal.invariant-loop-count
invariant-loop-count l = l.sum ≡ total (take l.count-index l.counts)
