use Rattle.std.proofs.Common.{false, take}
use Rattle.std.specs.List.{All}
use Rattle.binlog_inputs.specs.StandardOutput.{Asks}
use Rattle.binlog_inputs.proofs.standard_output.is_among.Given as goal

-- None of the names so far is that of the file.
abbrev pub invariant-loop-name : goal.invariant-loop-name
invariant-loop-name g l = All (λ name. Asks (g.S.LogFiles.has_named l.inputs) l.file name.now false) (take l.name-index l.names)
