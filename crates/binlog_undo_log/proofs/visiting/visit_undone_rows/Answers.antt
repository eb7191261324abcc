use Rattle.std.proofs.Common.{◌∙◌, sym, ap, List, length}
use Rattle.std.specs.Prelude.{◌==◌}
use Rattle.binlog_undo_index.specs.declared.index.UndoIndex.{UndoIndex}
use Rattle.binlog_undo_index.specs.declared.places.TransactionPlace.{TransactionPlace}
use Rattle.binlog_undo_log.proofs.Visited.{file_visited, none_visited}
use Rattle.binlog_undo_log.proofs.visiting.visit_undone_rows.Goals as goal

pub returns-then-is_empty : goal.returns-then-is_empty
returns-then-is_empty g c =
    let transactions = c.transactions.ensures ∙ ap (λ (i : UndoIndex). i.transactions.items) c.index.ensures in
    none_visited g.V.RowsVisitor.visits (g.F.Frames.is_at c.args.frames.now) c.args.scan.now.description c.args.scan.now.index.transactions.items c.args.scan.now.index.changes.items c.args.visitor.now
    (sym (c.if-is_empty.ensures ∙ ap (λ (t : List TransactionPlace). length t == 0) transactions))

pub returns-in-Some : goal.returns-in-Some
returns-in-Some g c =
    let transactions = c.transactions.ensures ∙ ap (λ (i : UndoIndex). i.transactions.items) c.index.ensures in
    file_visited g.V.RowsVisitor.visits (g.F.Frames.is_at c.args.frames.now) c.visit_described.result c.args.scan.now.description c.in-Some.place
    c.args.scan.now.index.transactions.items c.args.scan.now.index.changes.items c.args.visitor.now c.visit_described.new.visitor (sym c.description.ensures ∙ c.in-Some.is)
    (sym (c.if-is_empty.ensures ∙ ap (λ (t : List TransactionPlace). length t == 0) transactions)) c.visit_described.ensures
