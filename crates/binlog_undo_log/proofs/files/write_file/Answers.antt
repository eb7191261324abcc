use Rattle.std.proofs.Common.{◌∙◌, sym, ap, List, length}
use Rattle.std.specs.Prelude.{◌==◌}
use Rattle.binlog_undo_index.specs.declared.index.UndoIndex.{UndoIndex}
use Rattle.binlog_undo_index.specs.declared.places.TransactionPlace.{TransactionPlace}
use Rattle.binlog_undo_log.proofs.Described.{file_if}
use Rattle.binlog_undo_log.proofs.files.write_file.Goals as goal

pub returns-in-Some : goal.returns-in-Some
returns-in-Some g c =
    let transactions = c.transactions.ensures ∙ ap (λ (i : UndoIndex). i.transactions.items) c.index.ensures in
    file_if g.W.WriteCounted.contents (g.F.Frames.is_at c.args.frames.now) c.args.scan.now.checks c.write_described.result c.args.scan.now.description c.in-Some.place
    c.args.scan.now.index.transactions.items c.args.scan.now.index.changes.items c.args.output.now c.write_described.new.output (sym c.description.ensures ∙ c.in-Some.is)
    (sym (c.if-is_empty.ensures ∙ ap (λ (t : List TransactionPlace). length t == 0) transactions)) c.write_described.ensures
