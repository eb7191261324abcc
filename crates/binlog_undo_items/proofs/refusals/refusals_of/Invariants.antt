use Rattle.std.proofs.Common.{◌≡◌, take}
use Rattle.binlog_undo_items.specs.Refusals.{refusals_of}
use Rattle.binlog_undo_items.proofs.refusals.refusals_of.Given as goal

-- Those of the logs so far.
abbrev pub invariant-loop-log : goal.invariant-loop-log
invariant-loop-log l = record {
  counted : l.number ≡ l.log-index;
  all : l.all.items ≡ refusals_of (take l.log-index l.logs);
}
