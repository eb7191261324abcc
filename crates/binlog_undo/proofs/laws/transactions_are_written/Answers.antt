use Rattle.binlog_undo.proofs.Transactions.{all_written}
use Rattle.binlog_undo.proofs.laws.transactions_are_written.Goals as goal

pub returns : goal.returns
returns c = λ last changes xid old first between new begin middle end. all_written last changes xid old first between new begin middle end
