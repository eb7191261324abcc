use Rattle.std.proofs.Common.{◌≡◌, length}
use Rattle.binlog_filters.specs.Patterns.{front}
use Rattle.binlog_filters.proofs.pattern.take_front.Given as goal

-- The name goes on as the whole one begins.
abbrev pub invariant-loop-wanted : goal.invariant-loop-wanted
invariant-loop-wanted l = front l.pattern l.name ≡ front l.fn.pattern l.fn.name

abbrev pub decreases-loop-wanted : goal.decreases-loop-wanted
decreases-loop-wanted l = length l.pattern
