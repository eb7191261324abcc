use Rattle.change_statistics.proofs.HeldTransactions.{all_transactions}
use Rattle.change_statistics.proofs.laws.transaction_counts_are_of_all_events.Goals as goal

pub returns : goal.returns
returns c = all_transactions
