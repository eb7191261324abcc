use Rattle.std.proofs.Common.{◌≡◌}
use Rattle.binlog_later_changes.specs.Places.{places_of, places_in}
use Rattle.binlog_undo_index.specs.Parts.{parts_of}
use Rattle.binlog_undo_command.proofs.LaterFound.{if_ok}
use Rattle.binlog_undo_command.proofs.later_logs.look_at_scanned.Goals as goal

pub returns-clause-ok : goal.returns-clause-ok
returns-clause-ok g c =
    let parts = parts_of c.args.log.now.scan.index in
    let are = c.in_ok-are_inside.are_inside.items in
    let places : places_of c.new-undone.result ≡ places_in parts.transactions are parts.changes =
    (let a = c.index-index.ensures in let b = c.transactions.ensures in let d = c.as_slice.ensures.value in let e = c.changes.ensures in let f = c.new-undone.ensures in cc) in
    if_ok c.look_at.result _ _ (λ changes finds. record {
      undone = places_of c.new-undone.result;
      are = record { are_inside = are; inside = c.in_ok-are_inside.ensures.ok; places = places };
      finds = finds;
    }) c.look_at.ensures.ok
