use Rattle.std.proofs.Common.{refl}
use Rattle.binlog_undo_items.proofs.scanning.choice.Goals as goal

pub returns-clause-ok : goal.returns-clause-ok
returns-clause-ok c = record {
  filter = c.new-transactions.result;
  all = c.new-transactions.ensures;
  transactions = rw (c.start_if.ensures, c.stop_if-transactions.ensures) refl;
  tables = c.in_ok-tables.ensures.ok;
  excluded = c.in_ok-excluded.ensures.ok;
  plain = c.has_plain_temporal.ensures;
}
