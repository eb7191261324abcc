use Rattle.std.proofs.Common.{refl}
use Rattle.binlog_undo_command.proofs.options.choice.Goals as goal

pub returns-clause-ok : goal.returns-clause-ok
returns-clause-ok g c = record {
  filter = c.in_ok-transactions.transactions;
  states = c.in_ok-transactions.ensures.ok;
  transactions = rw (c.start.ensures, c.stop-transactions.ensures, c.take-tables.ensures.after) refl;
  tables = c.take-tables.ensures.value;
  excluded = c.in_ok-excluded.ensures.ok;
  plain = c.flag.ensures;
}
