use Rattle.std.proofs.Common.{◌≡◌, List, map, ◌++◌, ◌∷◌, [], refl, ap, ◌∙◌, rules}
use Rattle.std.proofs.lemmas.List.{map-append}
use Rattle.binlog_later_changes.specs.Tables.{change_of}
use Rattle.binlog_later_changes.proofs.HeldTables.{held_no_rows, held_any_again, held_any_first}
use Rattle.binlog_later_changes.proofs.later_tables.LaterTables.change_any.Goals as goal
use Rattle.binlog_later_changes.proofs.later_tables.LaterTables.change_any.Goals.{then-self-via-then-self, then-self-via-else-self+then-not-self}

pub returns-then-self : goal.returns-then-self
returns-then-self c = λ looks h. elim c.then-self.branch [
  | then-self-via-then-self w ↦ held_any_again c.args.event c.args.reason looks c.args.self.now h w.if-self.true
  | then-self-via-else-self+then-not-self w ↦ held_no_rows c.args.event c.args.reason looks c.args.self.now h w.if-not-self.true
]

pub returns : goal.returns
returns c = λ looks h. held_any_first c.args.event c.args.reason looks c.args.self.now h _ c.if-not-self.false c.if-self.false (λ name. refl) refl refl
    (ap (map change_of) c.in_ok-push.ensures.items ∙ map-append change_of c.args.self.now.found.items _)
