use Rattle.std.proofs.Common.{Bool, true, Ok, arith, rules}
use Rattle.std.proofs.lemmas.Result.{err_from_is_err_and}
use Rattle.binlog_event_format.specs.DescriptionRefs.{description_of}
use Rattle.binlog_visits.proofs.Counting.{known_same, known_ok, known_err, known_more}
use Rattle.binlog_payload_visits.specs.PartMaps.{maps_of}
use Rattle.binlog_payload_visits.proofs.VisitedParts.{visited_none, step_more, step_all, step_error, visited_out}
use Rattle.binlog_payload_visits.proofs.parts.visit_content.Goals as goal

pub parts-init : goal.parts-init
parts-init g c = record {
  visited = visited_none g.T.PartVisitor.visits_part (description_of c.args.fde) c.args.content.now c.args.index c.new-reader.result (maps_of c.new-maps.result) c.args.visitor.now c.new-reader.ensures.fde c.new-reader.ensures.bytes
      c.new-reader.ensures.goes c.new-maps.ensures;
  writer = known_same true _;
}

pub returns-in_err-visit_next-clause-visits : goal.returns-in_err-visit_next-clause-visits
returns-in_err-visit_next-clause-visits g c =
    let p = err_from_is_err_and c.from_residual.result c.from_residual.ensures.1 in
    rw (p.1, p.2) (step_error g.T.PartVisitor.visits_part g.T.PartVisitor.refuses_part _ _ _ _ _ _ _ _ _ _ _ _ c.parts.invariant.visited (rw c.in_err-visit_next.was at c.visit_next.ensures.steps))

pub returns-then-not-branch-clause-visits : goal.returns-then-not-branch-clause-visits
returns-then-not-branch-clause-visits g c =
    step_all g.T.PartVisitor.visits_part g.T.PartVisitor.refuses_part _ _ _ _ c.visit_next.new.reader _ (maps_of c.visit_next.new.maps) _ _ _ _ c.parts.invariant.visited (rw (c.in_ok-visit_next.was, c.if-not-branch.true) at c.visit_next.ensures.steps)

pub parts-preserved : goal.parts-preserved
parts-preserved g c = record {
  visited = step_more g.T.PartVisitor.visits_part g.T.PartVisitor.refuses_part _ _ _ _ _ _ _ _ _ _ _ c.parts.invariant.visited (rw (c.in_ok-visit_next.was, c.if-not-branch.false) at c.visit_next.ensures.steps);
  writer = known_more {B = Bool} true (Ok true) _ _ (g.T.Visitor.count c.visit_next.new.visitor) c.parts.invariant.writer (rw (c.in_ok-visit_next.was, c.if-not-branch.false) at c.visit_next.ensures.writer);
}

pub returns-clause-visits : goal.returns-clause-visits
returns-clause-visits g c = visited_out g.T.PartVisitor.visits_part g.T.PartVisitor.refuses_part _ _ _ _ _ _ _ _ c.parts.invariant.visited (omega arith) (search rules)

pub returns-in_err-visit_next-clause-writer : goal.returns-in_err-visit_next-clause-writer
returns-in_err-visit_next-clause-writer g c =
    let p = err_from_is_err_and c.from_residual.result c.from_residual.ensures.1 in
    let all = known_more {B = Bool} true c.visit_next.result _ _ (g.T.Visitor.count c.visit_next.new.visitor) c.parts.invariant.writer c.visit_next.ensures.writer in
    rw (p.1, p.2) (known_err Bool (Unit {0}) c.in_err-visit_next.field-0.0 _ _ (rw c.in_err-visit_next.was at all))

pub returns-then-not-branch-clause-writer : goal.returns-then-not-branch-clause-writer
returns-then-not-branch-clause-writer g c =
    known_ok {A = Bool} {B = Unit {0}} c.in_ok-visit_next.field-0 tt _ _
    (known_more {B = Bool} true (Ok c.in_ok-visit_next.field-0) _ _ (g.T.Visitor.count c.visit_next.new.visitor) c.parts.invariant.writer (rw c.in_ok-visit_next.was at c.visit_next.ensures.writer))

pub returns-clause-writer : goal.returns-clause-writer
returns-clause-writer g c = known_ok {A = Bool} {B = Unit {0}} true tt _ _ c.parts.invariant.writer
