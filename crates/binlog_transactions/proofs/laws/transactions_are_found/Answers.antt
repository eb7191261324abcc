use Rattle.binlog_transactions.proofs.Pieces.{some_pieces, all_told, all_left}
use Rattle.binlog_transactions.proofs.laws.transactions_are_found.Goals as goal

pub returns : goal.returns
returns c = record {
  some_pieces = λ marks. some_pieces marks;
  told = λ marks pieces h. all_told marks pieces h;
  end = λ marks pieces h. all_left marks pieces h;
}
