use Rattle.std.proofs.Common.{◌≡◌, Err, true, false, refl, sym, ◌∙◌}
use Rattle.binlog_payload_visits.specs.PartMaps.{maps_of}
use Rattle.binlog_later_changes.proofs.SeenEvents.{on_ok, visited_lack, unvisited_part}
use Rattle.binlog_later_changes.proofs.later_scan.LaterScanPartVisitor.visit_part_error.Goals as goal

pub returns-then-self-clause-ok : goal.returns-then-self-clause-ok
returns-then-self-clause-ok c = unvisited_part c.args.self.now (maps_of c.args._maps.now) (Err c.args.error.now) c.if-self.true

pub returns-then-is_too_long-clause-ok : goal.returns-then-is_too_long-clause-ok
returns-then-is_too_long-clause-ok c = on_ok c.note_unknown.result
    (λ sees. visited_lack c.args.self.now c.note_unknown.new.self (maps_of c.args._maps.now) c.args.error.now true c.if-self.false (sym c.if-is_too_long.true ∙ c.is_too_long.ensures) _ _ (refl, refl) sees) c.note_unknown.ensures.ok

pub returns-clause-ok : goal.returns-clause-ok
returns-clause-ok c = on_ok c.stop.result
    (λ sees. visited_lack c.args.self.now c.stop.new.self (maps_of c.args._maps.now) c.args.error.now false c.if-self.false (sym c.if-is_too_long.false ∙ c.is_too_long.ensures) _ _ (refl, refl) sees) c.stop.ensures.ok
