use Rattle.std.proofs.Common.{◌≡◌, Some, ap, sym, ◌∙◌}
use Rattle.std.specs.List.{slice_get}
use Rattle.binlog_json_values.specs.Before.{cells_before}
use Rattle.binlog_json_values.proofs.KeyedMembers.{item_there}
use Rattle.binlog_json_values.proofs.DocumentsBefore.{known_there}
use Rattle.binlog_json_values.proofs.before.DocumentsBefore.known.Goals as goal

pub returns-in-Some : goal.returns-in-Some
returns-in-Some c =
    let index = c.args.index in
    let there : slice_get c.args.self.now.documents.items index ≡ Some c.in-Some.document.now =
    ap (λ l. slice_get l index) (sym c.deref.ensures.value) ∙ item_there c.deref.result.now index c.in-Some.document c.in-Some.ensures.lookup in
    known_there (cells_before c.args.self.now.rows) c.args.self.now.documents.items index c.in-Some.document.now (c.args.self.now.read c.requires) there
