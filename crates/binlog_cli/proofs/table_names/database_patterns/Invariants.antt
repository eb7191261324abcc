use Rattle.std.proofs.Common.{map, take}
use Rattle.binlog_cli.specs.TableWords.{ArePatterns}
use Rattle.binlog_cli.proofs.table_names.database_patterns.Given as goal

-- The patterns of the names so far.
abbrev pub invariant-loop-name : goal.invariant-loop-name
invariant-loop-name g l = ArePatterns (map (λ name. name.now) (take l.name-index l.names)) l.patterns.items
