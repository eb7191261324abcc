use Rattle.std.proofs.Common.{inr}
use Rattle.binlog_undo_command.proofs.running.run_undo.Goals as goal

pub returns-in-Ok-Some-clause-usage : goal.returns-in-Ok-Some-clause-usage
returns-in-Ok-Some-clause-usage g c = λ usage. inr (c.undo_into.ensures usage)

pub returns-in-Ok-None-clause-usage : goal.returns-in-Ok-None-clause-usage
returns-in-Ok-None-clause-usage g c = λ usage. inr (c.count_undo.ensures.usage usage)
