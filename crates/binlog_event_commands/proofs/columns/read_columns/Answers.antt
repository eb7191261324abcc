use Rattle.std.proofs.Common.{◌≡◌, ◌+◌, List, [], ◌∷◌, ◌++◌, take, sym, subst, rules}
use Rattle.column_files.specs.declared.tables.DeclaredTables.{DeclaredTables}
use Rattle.binlog_event_commands.specs.Columns.{AreColumnFiles}
use Rattle.binlog_event_commands.proofs.ColumnFiles.{files_next}
use Rattle.binlog_event_commands.proofs.columns.read_columns.Goals as goal

pub loop-name-preserved : goal.loop-name-preserved
loop-name-preserved g c =
    let items : c.push.new.self.items ≡ c.loop-name.files.items ++ c.in_ok-tables.tables ∷ [] = search rules in
    subst (λ (files : List DeclaredTables). AreColumnFiles (λ name. g.S.Inputs.bytes c.args.inputs.now name.now) (take (c.loop-name.name-index + 1) c.args.names.now) files) (sym items)
    (files_next (λ name. g.S.Inputs.bytes c.args.inputs.now name.now) c.args.names.now c.loop-name.name-index _ c.loop-name.files.items c.in_ok-tables.tables c.loop-name-test.true c.loop-name.invariant c.in_ok-tables.ensures.ok)
