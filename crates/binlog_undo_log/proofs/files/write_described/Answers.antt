use Rattle.std.proofs.Common.{◌∙◌, List, OnOk, ap, subst}
use Rattle.binlog_event_format.specs.DescriptionRefs.{description_of}
use Rattle.binlog_events.specs.EventRefs.{view_of}
use Rattle.binlog_undo.specs.declared.inverse_event.ForeignKeyChecks.{ForeignKeyChecks}
use Rattle.binlog_undo_index.specs.declared.index.UndoIndex.{UndoIndex}
use Rattle.binlog_undo_index.specs.declared.places.ChangePlace.{ChangePlace}
use Rattle.binlog_undo_index.specs.declared.places.TransactionPlace.{TransactionPlace}
use Rattle.binlog_undo_log.proofs.Described.{log_if}
use Rattle.binlog_undo_log.specs.Output.{GrowsBy}
use Rattle.binlog_undo_log.specs.Undoing.{UndoesAll}
use Rattle.binlog_undo_log.proofs.files.write_described.Goals as goal

pub returns : goal.returns
returns g c =
    let transactions = c.transactions.ensures ∙ ap (λ (i : UndoIndex). i.transactions.items) c.index-index.ensures in
    let changes = c.changes.ensures ∙ ap (λ (i : UndoIndex). i.changes.items) c.index-index.ensures in
    let all : List TransactionPlace = c.args.scan.now.index.transactions.items in
    let undoes =
    subst (λ (k : ForeignKeyChecks). OnOk c.write_undo.result (GrowsBy g.W.WriteCounted.contents (UndoesAll (g.F.Frames.is_at c.frame_at.new.self) (description_of c.in_ok-fde.fde) k all c.args.scan.now.index.changes.items) c.describe.new.self c.write_undo.new.output)) c.checks.ensures
    (subst (λ (s : List ChangePlace). OnOk c.write_undo.result (GrowsBy g.W.WriteCounted.contents (UndoesAll (g.F.Frames.is_at c.frame_at.new.self) (description_of c.in_ok-fde.fde) c.checks.result all s) c.describe.new.self c.write_undo.new.output)) changes
    (subst (λ (t : List TransactionPlace). OnOk c.write_undo.result (GrowsBy g.W.WriteCounted.contents (UndoesAll (g.F.Frames.is_at c.frame_at.new.self) (description_of c.in_ok-fde.fde) c.checks.result t c.changes.result.now) c.describe.new.self c.write_undo.new.output)) transactions
    c.write_undo.ensures.written)) in
    log_if g.W.WriteCounted.contents (g.F.Frames.is_at c.args.frames.now) (g.F.Frames.is_at c.frame_at.new.self) c.in_ok-frame.ensures.same c.args.scan.now.checks c.write_undo.result
    c.args.place c.in_ok-frame.frame (description_of c.new.result) (view_of c.in_ok-event.event) (description_of c.in_ok-fde.fde) c.header.result all c.args.scan.now.index.changes.items
    c.args.output.now c.describe.new.self c.write_undo.new.output c.in_ok-frame.ensures.frame c.new.ensures c.in_ok-event.ensures.event c.in_ok-event.ensures.checksum
    c.in_ok-fde.ensures c.header.ensures c.in_ok-describe.ensures undoes
