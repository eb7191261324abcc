use Rattle.std.proofs.Common.{◌∙◌, List, OnOk, ap, subst}
use Rattle.binlog_event_format.specs.DescriptionRefs.{description_of}
use Rattle.binlog_events.specs.EventRefs.{view_of}
use Rattle.binlog_undo_index.specs.declared.index.UndoIndex.{UndoIndex}
use Rattle.binlog_undo_index.specs.declared.places.ChangePlace.{ChangePlace}
use Rattle.binlog_undo_index.specs.declared.places.TransactionPlace.{TransactionPlace}
use Rattle.binlog_undo_log.proofs.Visited.{described_visited}
use Rattle.binlog_undo_log.specs.Visiting.{VisitsThose, AreOfAll}
use Rattle.binlog_undo_log.proofs.visiting.visit_described.Goals as goal

pub returns : goal.returns
returns g c =
    let transactions = c.transactions.ensures ∙ ap (λ (i : UndoIndex). i.transactions.items) c.index-index.ensures in
    let changes = c.changes.ensures ∙ ap (λ (i : UndoIndex). i.changes.items) c.index-index.ensures in
    let all : List TransactionPlace = c.args.scan.now.index.transactions.items in
    let visited =
    subst (λ (s : List ChangePlace). OnOk c.visit_transactions.result (VisitsThose g.V.RowsVisitor.visits (AreOfAll (g.F.Frames.is_at c.frame_at.new.self) (description_of c.in_ok-fde.fde) all s) c.args.visitor.now c.visit_transactions.new.visitor)) changes
    (subst (λ (t : List TransactionPlace). OnOk c.visit_transactions.result (VisitsThose g.V.RowsVisitor.visits (AreOfAll (g.F.Frames.is_at c.frame_at.new.self) (description_of c.in_ok-fde.fde) t c.changes.result.now) c.args.visitor.now c.visit_transactions.new.visitor)) transactions
    c.visit_transactions.ensures) in
    described_visited g.V.RowsVisitor.visits (g.F.Frames.is_at c.args.frames.now) (g.F.Frames.is_at c.frame_at.new.self) c.in_ok-frame.ensures.same c.visit_transactions.result
    c.args.place c.in_ok-frame.frame (description_of c.new.result) (view_of c.in_ok-event.event) (description_of c.in_ok-fde.fde) all c.args.scan.now.index.changes.items
    c.args.visitor.now c.visit_transactions.new.visitor c.in_ok-frame.ensures.frame c.new.ensures c.in_ok-event.ensures.event c.in_ok-event.ensures.checksum c.in_ok-fde.ensures visited
