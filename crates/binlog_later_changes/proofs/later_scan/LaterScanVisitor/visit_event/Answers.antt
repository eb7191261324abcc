use Rattle.std.proofs.Common.{Ok, option_copied}
use Rattle.binlog_events.specs.EventRefs.{view_of}
use Rattle.binlog_file.specs.State.{state_of}
use Rattle.binlog_later_changes.proofs.SeenEvents.{on_ok, visited_event, unvisited}
use Rattle.binlog_later_changes.proofs.later_scan.LaterScanVisitor.visit_event.Goals as goal

pub returns-then-self-clause-ok : goal.returns-then-self-clause-ok
returns-then-self-clause-ok c = unvisited c.args.self.now (state_of c.args.reader.now).table_maps c.args.index (Ok (view_of c.args.event.now)) c.if-self.true

pub returns-clause-ok : goal.returns-clause-ok
returns-clause-ok c = on_ok c.note_read-answer.result
    (λ sees. visited_event c.args.self.now c.enter.new.self c.note_read-answer.new.self (state_of c.args.reader.now).table_maps c.args.index (view_of c.args.event.now) c.read_log_data-read.result (option_copied c.outside_map-map.result)
    c.if-self.false c.enter.ensures c.read_log_data-read.ensures c.outside_map-map.ensures sees)
    c.note_read-answer.ensures.ok
