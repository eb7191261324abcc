use Rattle.std.proofs.Common.{◌≡◌, ◌∷◌, ◌++◌, [], List, length, arith}
use Rattle.binlog_event_format.specs.DescriptionRefs.{description_of}
use Rattle.binlog_undo_index.specs.declared.places.ChangePlace.{ChangePlace}
use Rattle.binlog_undo_log.proofs.Passes.{moved, moved_part}
use Rattle.binlog_undo_log.proofs.Visited.{transaction_more}
use Rattle.binlog_undo_log.proofs.visiting.visit_transactions.Goals as goal

pub transactions-preserved : goal.transactions-preserved
transactions-preserved g c =
    let done = c.transactions.invariant.done in
    let before : List ChangePlace = c.split_at.result.0.now in
    let own : List ChangePlace = c.split_at.result.1.now in
    let split : c.transactions.left.now ≡ c.in-Some.front.now ++ c.in-Some.transaction.now ∷ [] = c.in-Some.ensures.cases.0 in
    let whole : c.transactions.changes_left.now ≡ before ++ own = c.split_at.ensures.by_index.0 in
    let long : length own ≡ c.in-Some.transaction.now.changes = omega (arith, c.in-Some-checked_sub.ensures, c.split_at.ensures.back_len) in
    record {
      done = (
        c.in-Some.transaction.now ∷ done.0,
        own ++ done.1,
        moved c.args.transactions.now c.transactions.left.now c.in-Some.front.now done.0 c.in-Some.transaction.now done.2 split,
        moved_part c.args.changes.now c.transactions.changes_left.now before own done.1 done.3 whole,
        transaction_more g.V.RowsVisitor.visits (g.F.Frames.is_at c.args.frames.now) (g.F.Frames.is_at c.transactions.frames) c.transactions.invariant.among
            (description_of c.args.fde) c.in-Some.transaction.now done.0 own done.1 c.args.visitor.now c.transactions.visitor c.visit_transaction.new.visitor done.4
            c.in_ok-visit_transaction.ensures.visited long,
      );
      among = λ place frame h. c.transactions.invariant.among place frame (c.in_ok-visit_transaction.ensures.same place frame h);
    }
