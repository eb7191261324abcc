use Rattle.std.proofs.Common.{Ok, sym, ◌∙◌}
use Rattle.binlog_file.specs.EventRefs.{view_of}
use Rattle.binlog_file.specs.State.{state_of}
use Rattle.binlog_statistics_command.proofs.CountedTransactions.{counted_by, ended_by}
use Rattle.binlog_statistics_command.proofs.transaction_counter.TransactionCounterVisitor.visit_event.Goals as goal

pub returns-then-is_of_log-clause-ok : goal.returns-then-is_of_log-clause-ok
returns-then-is_of_log-clause-ok c =
    ended_by c.end_transaction.result c.args.self.now.counter (state_of c.args.reader.now).table_maps (Ok (view_of c.args.event.now)) c.end_transaction.new.self.counter
    (sym c.is_of_log.ensures ∙ c.if-is_of_log.true) c.end_transaction.ensures.ok

pub returns-clause-ok : goal.returns-clause-ok
returns-clause-ok c =
    counted_by c.visit_event.result c.args.self.now.counter (state_of c.args.reader.now).table_maps (Ok (view_of c.args.event.now)) c.visit_event.new.self
    (sym c.is_of_log.ensures ∙ c.if-is_of_log.false) c.visit_event.ensures.ok
