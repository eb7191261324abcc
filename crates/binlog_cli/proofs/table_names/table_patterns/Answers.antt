use Rattle.std.proofs.Common.{◌≡◌, ◌+◌, List, [], ◌∷◌, ◌++◌, map, take, sym, subst, rules}
use Rattle.binlog_cli.specs.TableWords.{AreTables}
use Rattle.binlog_filters.specs.declared.tables.TablePattern.{TablePattern}
use Rattle.binlog_cli.proofs.TableNames.{refused_at, tables_next}
use Rattle.binlog_cli.proofs.table_names.table_patterns.Goals as goal

pub loop-name-preserved : goal.loop-name-preserved
loop-name-preserved g c =
    let items : c.push.new.self.items ≡ c.loop-name.patterns.items ++ c.in-Ok.pattern ∷ [] = search rules in
    subst (λ (patterns : List TablePattern). AreTables (map (λ name. name.now) (take (c.loop-name.name-index + 1) c.args.names.now)) patterns) (sym items)
    (tables_next c.args.names.now c.loop-name.name-index _ c.loop-name.patterns.items c.in-Ok.pattern c.loop-name-test.true c.loop-name.invariant c.in-Ok.ensures.ok)

pub returns-in-Err-clause-err : goal.returns-in-Err-clause-err
returns-in-Err-clause-err g c = refused_at c.args.names.now c.loop-name.name-index _ c.in-Err.status c.loop-name-test.true c.in-Err.ensures.err
