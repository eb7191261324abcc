use Rattle.std.proofs.Common.{Ok, option_copied}
use Rattle.binlog_events.specs.EventRefs.{view_of}
use Rattle.binlog_payload_visits.specs.PartMaps.{maps_of}
use Rattle.binlog_later_changes.proofs.SeenEvents.{on_ok, visited_part, unvisited_part}
use Rattle.binlog_later_changes.proofs.later_scan.LaterScanPartVisitor.visit_part.Goals as goal

pub returns-then-self-clause-ok : goal.returns-then-self-clause-ok
returns-then-self-clause-ok c = unvisited_part c.args.self.now (maps_of c.args.maps.now) (Ok (view_of c.args.event.now)) c.if-self.true

pub returns-clause-ok : goal.returns-clause-ok
returns-clause-ok c = on_ok c.note_read-answer.result
    (λ sees. visited_part c.args.self.now c.enter_part.new.self c.note_read-answer.new.self (maps_of c.args.maps.now) (view_of c.args.event.now) c.read_log_data-read.result (option_copied c.inside_map-map.result)
    c.if-self.false c.enter_part.ensures c.read_log_data-read.ensures c.inside_map-map.ensures sees)
    c.note_read-answer.ensures.ok
