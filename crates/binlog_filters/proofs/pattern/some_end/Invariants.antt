use Rattle.std.proofs.Common.{◌≡◌, ◌+◌, length}
use Rattle.binlog_filters.specs.Patterns.{some_end}
use Rattle.binlog_filters.proofs.pattern.some_end.Given as goal

-- Some end of the name that is left matches what is left of the pattern exactly if one of the whole name matches the whole pattern.
abbrev pub invariant-ends : goal.invariant-ends
invariant-ends l = some_end l.pattern l.name ≡ some_end l.fn.pattern l.fn.name

abbrev pub decreases-ends : goal.decreases-ends
decreases-ends l = length l.pattern + length l.name
