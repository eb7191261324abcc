use Rattle.binlog_undo.proofs.Transactions.{joined, bytes_are, all_fit}
use Rattle.binlog_undo.proofs.laws.events_are_written.Goals as goal

pub returns : goal.returns
returns c = record {
  joined = λ front events old between new h w. joined front events old between new h w;
  bytes = λ events old new h. bytes_are events old new h;
  fit = λ events old new h. all_fit events old new h;
}
