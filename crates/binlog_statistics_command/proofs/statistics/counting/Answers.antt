use Rattle.std.proofs.Common.{◌∙◌, refl}
use Rattle.binlog_statistics_command.proofs.statistics.counting.Goals as goal

pub returns-clause-ok : goal.returns-clause-ok
returns-clause-ok g c = record {
  counts = rw (c.new.ensures.visitor, c.new-noted.ensures) c.new-taken.ensures.visitor;
  tables = (c.in_ok-asked.asked, c.in_ok-asked.ensures.ok, rw (c.new.ensures.visitor, c.new-noted.ensures) (c.new-taken.ensures.tables ∙ c.take-tables.ensures.value));
  undamaged = rw (c.new.ensures.visitor, c.new-noted.ensures) refl;
  limit = c.new.ensures.limit;
}
