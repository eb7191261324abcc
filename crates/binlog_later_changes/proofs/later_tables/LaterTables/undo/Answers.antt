use Rattle.std.proofs.Common.{◌≡◌, Bool, Option, Some, None, refl, sym, ◌∙◌, ap, OnOk, rules}
use Rattle.change_statistics.specs.Names.{name_of}
use Rattle.binlog_later_changes.proofs.HeldTables.{undone_if, held_undone_again}
use Rattle.binlog_later_changes.proofs.later_tables.LaterTables.undo.Goals as goal

pub returns-in-Some : goal.returns-in-Some
returns-in-Some c = λ event looks h. held_undone_again event (name_of c.args.name) looks c.args.self.now _ h (λ none. let a = c.in-Some.ensures ∙ none in absurd cc) (λ second. refl) refl refl refl

pub returns-in-None : goal.returns-in-None
returns-in-None c = undone_if c.put.result (name_of c.args.name) c.args.self.now _ c.put.new.self (sym c.in-None.ensures) (λ second. refl) refl refl refl c.put.ensures
