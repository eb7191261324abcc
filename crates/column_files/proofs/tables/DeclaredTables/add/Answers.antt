use Rattle.std.proofs.Common.{◌∙◌}
use Rattle.column_files.specs.Tables.{columns_named}
use Rattle.column_files.proofs.TableColumns.{updates_name, adds_column, pushed, renamed, same_next}
use Rattle.column_files.proofs.tables.DeclaredTables.add.Goals as goal

pub returns-clause-place : goal.returns-clause-place
returns-clause-place c =
    let named = c.take-columns.ensures.columns ∙ renamed c.args.self.now _ _ _ _ c.in_ok-text.ensures c.in_ok-text-2.ensures in
    same_next c.args.line.now.position c.len.result c.take-columns.result.items c.push.new.self.items c.in_ok-column.column (columns_named c.args.self.now c.args.line.now.schema c.args.line.now.table) named
    c.in_ok-push.ensures.items (c.len.ensures ∙ c.push.new.self.ok.0)

pub returns-clause-adds : goal.returns-clause-adds
returns-clause-adds c =
    let are = pushed c.take-columns.result.items c.push.new.self.items c.in_ok-column.column _ c.args.line.now c.in_ok-push.ensures.items c.take-columns.ensures.columns c.in_ok-column.ensures in
    adds_column c.args.self.now c.take-columns.new.self (record { tables = c.insert.new.self }) c.in_ok-text.field-0.items c.in_ok-text-2.field-0.items c.args.line.now c.push.new.self c.in_ok-text.ensures
    c.in_ok-text-2.ensures c.take-columns.ensures.taken (updates_name c.take-columns.new.self.tables c.insert.new.self c.in_ok-text.field-0.items c.in_ok-text-2.field-0.items _ c.in_ok-insert.ensures.updates) are
