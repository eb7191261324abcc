use Rattle.std.proofs.Common.{take}
use Rattle.binlog_event_commands.specs.Columns.{AreColumnFiles}
use Rattle.binlog_event_commands.proofs.columns.read_columns.Given as goal

-- The files of the names so far.
abbrev pub invariant-loop-name : goal.invariant-loop-name
invariant-loop-name g l = AreColumnFiles (λ name. g.S.Inputs.bytes l.inputs name.now) (take l.name-index l.names) l.files.items
