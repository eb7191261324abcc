use Rattle.std.proofs.Common.{◌≡◌, Bool, true, false, Some, sym, ◌∙◌, ap}
use Rattle.change_statistics.specs.Names.{name_of}
use Rattle.binlog_later_changes.proofs.HeldTables.{found_if, held_other_rows}
use Rattle.binlog_later_changes.proofs.later_tables.LaterTables.change.Goals as goal

pub returns-then-is_found : goal.returns-then-is_found
returns-then-is_found c = λ looks h. held_other_rows c.args.event (name_of c.args.name) looks c.args.self.now h
    (λ first. let a = c.in-Some.ensures ∙ first in let b = c.if-is_found.true in absurd cc)

pub returns-else-is_found : goal.returns-else-is_found
returns-else-is_found c = found_if c.find.result c.args.event (name_of c.args.name) c.args.self.now c.find.new.self
    (sym c.in-Some.ensures ∙ ap (λ (b : Bool). Some b) c.if-is_found.false) c.find.ensures

pub returns-in-None : goal.returns-in-None
returns-in-None c = λ looks h. held_other_rows c.args.event (name_of c.args.name) looks c.args.self.now h (λ first. let a = c.in-None.ensures ∙ first in absurd cc)
