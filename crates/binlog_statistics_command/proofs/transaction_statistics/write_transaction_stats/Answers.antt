use Rattle.std.proofs.Common.{inl, inr}
use Rattle.binlog_statistics_command.proofs.transaction_statistics.write_transaction_stats.Goals as goal

pub returns-in-Ok-clause-keeps : goal.returns-in-Ok-clause-keeps
returns-in-Ok-clause-keeps g c = inr c.in-Ok.ensures.ok

pub returns-in-Err-clause-keeps : goal.returns-in-Err-clause-keeps
returns-in-Err-clause-keeps g c = inl c.in-Err.ensures.err
