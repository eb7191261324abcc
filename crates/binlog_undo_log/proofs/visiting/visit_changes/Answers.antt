use Rattle.std.proofs.Common.{◌≡◌, ◌∷◌, ◌++◌, [], refl}
use Rattle.binlog_event_format.specs.DescriptionRefs.{description_of}
use Rattle.binlog_undo_log.proofs.Passes.{moved}
use Rattle.binlog_undo_log.proofs.Visited.{one_more}
use Rattle.binlog_undo_log.proofs.visiting.visit_changes.Goals as goal

pub changes-preserved : goal.changes-preserved
changes-preserved g c =
    let done = c.changes.invariant.done in
    let split : c.changes.left.now ≡ c.in-Some.front.now ++ c.in-Some.change.now ∷ [] = c.in-Some.ensures.cases.0 in
    record {
      done = (
        c.in-Some.change.now ∷ done.0,
        moved c.args.changes.now c.changes.left.now c.in-Some.front.now done.0 c.in-Some.change.now done.1 split,
        one_more g.V.RowsVisitor.visits (g.F.Frames.is_at c.args.frames.now) (g.F.Frames.is_at c.changes.frames) c.changes.invariant.among (description_of c.args.fde)
            c.in-Some.change.now done.0 c.args.visitor.now c.changes.visitor c.visit_change.new.visitor done.2 c.in_ok-visit_change.ensures.visited,
      );
      among = λ place frame h. c.changes.invariant.among place frame (c.in_ok-visit_change.ensures.same place frame h);
    }
