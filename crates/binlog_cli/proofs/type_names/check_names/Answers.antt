use Rattle.binlog_cli.proofs.NamedTypes.{type_more}
use Rattle.binlog_cli.proofs.type_names.check_names.Goals as goal

pub loop-name-preserved : goal.loop-name-preserved
loop-name-preserved g c = type_more c.args.names.now c.loop-name.name-index _ _ c.loop-name-test.true c.in-Some.ensures c.loop-name.invariant
