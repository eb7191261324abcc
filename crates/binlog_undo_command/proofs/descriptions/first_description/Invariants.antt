use Rattle.std.proofs.Common.{take}
use Rattle.std.specs.List.{All}
use Rattle.binlog_undo_command.specs.Descriptions.{HasNone}
use Rattle.binlog_undo_command.proofs.descriptions.first_description.Given as goal

-- Nothing is undone in the logs so far.
abbrev pub invariant-loop-log : goal.invariant-loop-log
invariant-loop-log g l = All HasNone (take l.log-index l.scanned)
