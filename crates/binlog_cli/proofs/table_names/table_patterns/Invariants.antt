use Rattle.std.proofs.Common.{map, take}
use Rattle.binlog_cli.specs.TableWords.{AreTables}
use Rattle.binlog_cli.proofs.table_names.table_patterns.Given as goal

-- The patterns of the names so far.
abbrev pub invariant-loop-name : goal.invariant-loop-name
invariant-loop-name g l = AreTables (map (λ name. name.now) (take l.name-index l.names)) l.patterns.items
