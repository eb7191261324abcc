use Rattle.std.proofs.Common.{◌≡◌, Some, cond, subst}
use Rattle.indexmap.specs.IndexMap.{get_by}
use Rattle.change_statistics.specs.Facts.{Name}
use Rattle.change_statistics.specs.Names.{name_eq, is_named}
use Rattle.change_statistics.proofs.NamedTables.{updates_name}
use Rattle.binlog_later_changes.proofs.rows_left.RowsLeft.insert_table.Goals as goal

pub returns-clause-tables : goal.returns-clause-tables
returns-clause-tables c = λ name.
    subst (λ (own : Name). get_by (is_named name) c.insert.new.self ≡ cond (name_eq own name) (Some c.args.is_unknown) (get_by (is_named name) c.args.self.now.tables)) c.in_ok-own.ensures
    (updates_name c.args.self.now.tables c.insert.new.self c.in_ok-own.own c.args.is_unknown c.in_ok-insert.ensures.updates name)
