use Rattle.binlog_statistics_command.proofs.WithinTransactions.{all_within}
use Rattle.binlog_statistics_command.proofs.laws.transactions_are_of_their_events.Goals as goal

pub returns : goal.returns
returns c = all_within
