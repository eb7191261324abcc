use Rattle.std.proofs.Common.{◌⊎◌, take}
use Rattle.std.specs.List.{All}
use Rattle.binlog_undo_command.specs.Descriptions.{HasNone, IsUnder}
use Rattle.binlog_undo_command.proofs.descriptions.check_against.Given as goal

-- What is undone in the logs so far is under the description.
abbrev pub invariant-loop-log : goal.invariant-loop-log
invariant-loop-log g l =
    All (λ log. HasNone log ⊎ IsUnder (g.L.Logs.has_frames l.logs) g.L.Sought.Frames.is_at l.first.body.items l.first.has_checksums log) (take l.log-index l.scanned)
