use Rattle.binlog_undo_index.proofs.RowTransactions.{rows_are_kept}
use Rattle.binlog_undo_index.proofs.laws.row_transactions_are_kept.Goals as goal

pub returns : goal.returns
returns c = λ rules first last transactions begins ends h. rows_are_kept rules first last transactions begins ends h
