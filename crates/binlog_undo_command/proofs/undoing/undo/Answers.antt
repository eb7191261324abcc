use Rattle.binlog_undo_command.proofs.undoing.undo.Goals as goal

pub returns-in-Ok-clause-fine : goal.returns-in-Ok-clause-fine
returns-in-Ok-clause-fine g c = λ fine. record {
  is_one = c.is_one_transaction-is_one.result;
  logs = c.in-Ok.scanned.items;
  undone = c.in-Ok.ensures.ok;
  counts = c.in-Ok.ensures.counts;
  puts = rw c.as_slice.ensures.value at (c.put_log.ensures.fine fine);
}
