use Rattle.std.proofs.Common.{Err}
use Rattle.binlog_file.specs.State.{state_of}
use Rattle.binlog_later_changes.proofs.SeenEvents.{on_ok, visited_error, unvisited}
use Rattle.binlog_later_changes.proofs.later_scan.LaterScanVisitor.visit_error.Goals as goal

pub returns-then-self-clause-ok : goal.returns-then-self-clause-ok
returns-then-self-clause-ok c = unvisited c.args.self.now (state_of c.args._reader.now).table_maps c.args.index (Err c.args._error.now) c.if-self.true

pub returns-clause-ok : goal.returns-clause-ok
returns-clause-ok c = on_ok c.stop.result
    (λ sees. visited_error c.args.self.now c.enter_error.new.self c.stop.new.self (state_of c.args._reader.now).table_maps c.args.index c.args._error.now c.if-self.false c.enter_error.ensures sees) c.stop.ensures.ok
