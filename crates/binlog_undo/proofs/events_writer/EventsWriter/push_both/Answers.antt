use Rattle.binlog_undo.proofs.Transactions.{two_written_if}
use Rattle.binlog_undo.proofs.events_writer.EventsWriter.push_both.Goals as goal

pub returns-clause-written : goal.returns-clause-written
returns-clause-written c =
    two_written_if c.args.change.now c.args.self.now c.push_table_map.new.self c.push_inverse.new.self c.push_inverse.result c.in_ok-push_table_map.ensures.written
    c.push_inverse.ensures.written
