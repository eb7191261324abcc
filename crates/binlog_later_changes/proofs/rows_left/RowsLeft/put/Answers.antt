use Rattle.std.proofs.Common.{Some}
use Rattle.binlog_later_changes.proofs.RowsLeft.{sets_count}
use Rattle.binlog_later_changes.proofs.rows_left.RowsLeft.put.Goals as goal

pub returns-clause-counts : goal.returns-clause-counts
returns-clause-counts c = sets_count c.args.self.now.counts c.insert.new.self c.args.key (Some c.args.count) c.in_ok-insert.ensures.updates
