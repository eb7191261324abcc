use Rattle.std.proofs.Common.{None}
use Rattle.binlog_later_changes.proofs.RowsLeft.{sets_count}
use Rattle.binlog_later_changes.proofs.rows_left.RowsLeft.remove.Goals as goal

pub returns-clause-counts : goal.returns-clause-counts
returns-clause-counts c = sets_count c.args.self.now.counts c.swap_remove.new.self c.args.key.now None c.swap_remove.ensures.updates
