use Rattle.std.proofs.Common.{◌≡◌, false, rules, sym, ◌∙◌, is_some}
use Rattle.column_files.specs.Tables.{compare_names}
use Rattle.column_files.proofs.TableColumns.{updates_name}
use Rattle.std.specs.BTreeMap.{get_by}
use Rattle.binlog_declared_columns.proofs.NotedColumns.{noted}
use Rattle.binlog_declared_columns.proofs.contradictions.Contradictions.note.Goals as goal

pub returns-in_ok-insert : goal.returns-in_ok-insert
returns-in_ok-insert c =
    let schema : c.in_ok-to_vec.field-0.items ≡ c.args.schema.now = search rules in
    let table : c.in_ok-to_vec-2.field-0.items ≡ c.args.table.now = search rules in
    let absent : is_some (get_by (compare_names c.in_ok-to_vec.field-0.items c.in_ok-to_vec-2.field-0.items) c.args.self.now.columns) ≡ false = sym c.contains_key.ensures ∙ c.if-not-contains_key.true in
    let put = updates_name c.args.self.now.columns c.insert.new.self c.in_ok-to_vec.field-0.items c.in_ok-to_vec-2.field-0.items _ c.in_ok-insert.ensures.updates in
    rw (schema, table) at (noted c.args.self.now.columns c.insert.new.self c.in_ok-to_vec.field-0.items c.in_ok-to_vec-2.field-0.items c.args.column absent put)
