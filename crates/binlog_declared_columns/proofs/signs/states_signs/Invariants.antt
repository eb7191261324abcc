use Rattle.std.proofs.Common.{length}
use Rattle.binlog_declared_columns.proofs.SignFields.{IsLeft}
use Rattle.binlog_declared_columns.proofs.signs.states_signs.Given as goal

-- What is stated so far, or by the fields that are left.
abbrev pub invariant-loop-item : goal.invariant-loop-item
invariant-loop-item l = IsLeft l.metadata l.fields l.is_stated

abbrev pub decreases-loop-item : goal.decreases-loop-item
decreases-loop-item l = length l.fields.rest.now
